-- What a sender sent, which copies of it came, and which of them came in time, where deadlines count from one base.
-- Nothing here extends a sequence number, and nothing speaks of what a receiver keeps.
use Rattle.std.specs.Prelude.{◌≢◌, ℕ, ℤ, pos, ◌-ℤ◌, int_le, int_lt, ◌+◌, ◌*◌, ◌/◌, ◌%◌, ◌^◌, ◌<◌, ◌≤◌, max, List, []}
use Rattle.std.specs.Prelude.{◌∷◌, Bool, not, ◌&&◌, nat_le, nat_lt, ◌==◌, if◌then◌else◌, Option, None, Some, unwrap_or}
use Rattle.std.specs.List.{list_any}
use Rattle.receiver_rules.specs.declared.limits.Limits.{Limits}
use Rattle.receiver_rules.specs.declared.verdict.Verdict.{Verdict}
use Rattle.receiver_rules.specs.declared.verdict.Verdict.TheVariants.{Stranger, Exhausted, Behind}
use Rattle.seq_unwrap.specs.declared.width.Width.{Width}
use Rattle.receiver_rules.specs.Steps.{Arrival, Event, Media, TimeOnly, Step}
use Rattle.receiver_rules.specs.Packets.{distance}
use Rattle.seq_unwrap.specs.Nearest.{cycle_of}

-- a flow as it was sent: the timestamp and the payload of each sent number
pub record SentStream : Type 0 where
  pub flow : ℕ
  pub width : Width
  pub timestamp : ℕ → ℕ
  pub payload : ℕ → List ℕ

-- timestamps never fall
abbrev pub HasSteadyTimestamps : SentStream → Type 0
HasSteadyTimestamps p = (m n : ℕ) → m ≤ n → p.timestamp m ≤ p.timestamp n

-- a copy of a number, the original or a retransmission, as it is seen at the other end
abbrev pub copy_of : SentStream → ℕ → Bool → Arrival
copy_of p n again =
    record {
      flow = p.flow;
      again = again;
      width = p.width;
      word = n % cycle_of p.width;
      timestamp = p.timestamp n % 4294967296;
      payload = p.payload n;
    }

-- what a step brings: a copy of this number, which may be a retransmission, or no copy
pub data Content : Type 0 where
  CopyOf : ℕ → Bool → Content
  NoCopy : Content

-- a step of a run. A run is a list of them, the newest first: under any loss, repeat, delay and order
pub record Delivery : Type 0 where
  pub tick : ℕ
  pub what : Content

-- the step as the receiver sees it
abbrev pub event_of : SentStream → Content → Event
event_of p (CopyOf n again) = Media (copy_of p n again)
event_of p NoCopy = TimeOnly

-- the steps of a run as the receiver sees them
abbrev pub steps_of : SentStream → List Delivery → List Step
steps_of p [] = []
steps_of p (d ∷ before) = record { tick = d.tick; event = event_of p d.what } ∷ steps_of p before

-- the effective time of a run
abbrev pub run_time : List Delivery → ℕ
run_time [] = 0
run_time (d ∷ before) = max d.tick (run_time before)

-- the number and the time of the first copy that came
pub record Start : Type 0 where
  pub number : ℕ
  pub time : ℕ

-- the start after one more step
abbrev pub start_after : Option Start → ℕ → Content → Option Start
start_after start t (CopyOf n again) = Some (unwrap_or start (record { number = n; time = t }))
start_after start t NoCopy = start

-- the start of a run, where a copy has come
abbrev pub start_of : List Delivery → Option Start
start_of [] = None
start_of (d ∷ before) = start_after (start_of before) (run_time (d ∷ before)) d.what

-- the deadline of a sent number
abbrev pub number_deadline : Limits → SentStream → Start → ℕ → ℤ
number_deadline limits p s n = pos (s.time + p.timestamp n + limits.playout_delay) -ℤ pos (p.timestamp s.number)

-- a copy arrives in its window: its deadline lies ahead, by at most twice the playout delay, and no number that was
-- reached before and is still to be played out lies the capacity or more away
abbrev pub arrives_in_window : Limits → SentStream → Start → List ℕ → ℕ → ℕ → Bool
arrives_in_window limits p s reached t n =
    not (int_le (number_deadline limits p s n) (pos t))
    && (not (int_lt (pos (t + 2 * limits.playout_delay)) (number_deadline limits p s n))
    && not (list_any (λ m. not (int_le (number_deadline limits p s m) (pos t)) && nat_le limits.capacity (distance m n))
    reached))

-- the numbers that were reached, after one more step
abbrev pub reached_after : Limits → SentStream → Option Start → List ℕ → ℕ → Content → List ℕ
reached_after limits p first reached t (CopyOf n again) =
    if arrives_in_window limits p (unwrap_or first (record { number = n; time = t })) reached t n then n ∷ reached
    else reached
reached_after limits p first reached t NoCopy = reached

-- the numbers of which a copy arrived in its window, a number once for each such copy
abbrev pub reached_numbers : Limits → SentStream → List Delivery → List ℕ
reached_numbers limits p [] = []
reached_numbers limits p (d ∷ before) =
    reached_after limits p (start_of before) (reached_numbers limits p before) (run_time (d ∷ before)) d.what

-- the greatest of some numbers
abbrev pub greatest_of : List ℕ → ℕ
greatest_of [] = 0
greatest_of (n ∷ ns) = max n (greatest_of ns)

-- near enough to the greatest number reached for its words to tell it apart: less than half a cycle away, and its
-- timestamp likewise; and the number space has not ended
pub record IsNear (p : SentStream) (first best n : ℕ) : Type 0 where
  pub low : best ≤ n + cycle_of p.width / 2
  pub high : n < best + cycle_of p.width / 2
  pub timestamp_low : p.timestamp best ≤ p.timestamp n + 2147483648
  pub timestamp_high : p.timestamp n < p.timestamp best + 2147483648
  pub small : 2 ^ 40 + first % cycle_of p.width + n < 2 ^ 62 + first

-- a copy is near, unless it is the first
abbrev pub IsNearAfter : Limits → SentStream → Option Start → List ℕ → Content → Type 0
IsNearAfter limits p None reached what = Unit {0}
IsNearAfter limits p (Some s) reached NoCopy = Unit {0}
IsNearAfter limits p (Some s) reached (CopyOf n again) = IsNear p s.number (greatest_of reached) n

-- each arrival is a copy of a sent number that its words tell apart
abbrev pub AreDeliveriesOf : Limits → SentStream → List Delivery → Type 0
AreDeliveriesOf limits p [] = Unit {0}
AreDeliveriesOf limits p (d ∷ before) =
    IsNearAfter limits p (start_of before) (reached_numbers limits p before) d.what × AreDeliveriesOf limits p before

-- a number at its place among others that rise, unless it is there
abbrev pub insert_number : ℕ → List ℕ → List ℕ
insert_number n [] = n ∷ []
insert_number n (m ∷ ms) = if nat_lt n m then n ∷ m ∷ ms else if n == m then m ∷ ms else m ∷ insert_number n ms

-- the members of a list, each once, rising
abbrev pub rising_numbers : List ℕ → List ℕ
rising_numbers [] = []
rising_numbers (n ∷ ns) = insert_number n (rising_numbers ns)

-- the verdict is none of these: of another flow, past the end of the numbers
pub record IsKnown (verdict : Verdict) : Type 0 where
  pub known : verdict ≢ Stranger
  pub small : verdict ≢ Exhausted

-- nor behind what was played out
pub record IsOrdinary (verdict : Verdict) : Type 0 where
  pub known : verdict ≢ Stranger
  pub small : verdict ≢ Exhausted
  pub ahead : verdict ≢ Behind
