-- What senders sent one after another, each in an epoch of its own, which copies of it came, and which of them came in
-- time, where the base of deadlines may move. Nothing here extends a sequence number, and nothing speaks of what a
-- receiver keeps.
use Rattle.std.specs.Prelude.{◌≡◌, ℕ, ℤ, pos, ◌+ℤ◌, ◌-ℤ◌, int_le, int_lt, ◌+◌, ◌*◌, List, [], ◌∷◌, ◌++◌, map, length}
use Rattle.std.specs.Prelude.{Bool, true, false, not, ◌&&◌, nat_le, nat_lt, ◌==◌, if◌then◌else◌, max}
use Rattle.std.specs.List.{list_any}
use Rattle.receiver_rules.specs.declared.limits.Limits.{Limits}
use Rattle.receiver_rules.specs.Steps.{Arrival, Event, Media, TimeOnly, Step}
use Rattle.receiver_rules.specs.Clock.{clock_base}
use Rattle.receiver_rules.specs.Packets.{distance}
use Rattle.receiver_rules.specs.Sent.{SentStream, Start, copy_of, greatest_of, rising_numbers, IsNear}

-- what a step brings: a copy of a number of the stream that is sent in an epoch, which are counted from 0, and whether
-- it is a retransmission; another packet; or none
pub data Shipment : Type 0 where
  CopyIn : ℕ → ℕ → Bool → Shipment
  Foreign : Arrival → Shipment
  NoPacket : Shipment

-- a step of a run. A run is a list of them, the newest first: under any loss, repeat, delay and order
pub record Transfer : Type 0 where
  pub tick : ℕ
  pub what : Shipment

-- the streams that are sent, one in each epoch
abbrev pub SentStreams : Type 0
SentStreams = ℕ → SentStream

-- the step as the receiver sees it
abbrev pub shipped_event : SentStreams → Shipment → Event
shipped_event streams (CopyIn epoch n again) = Media (copy_of (streams epoch) n again)
shipped_event streams (Foreign arrival) = Media arrival
shipped_event streams NoPacket = TimeOnly

-- the steps of a run as the receiver sees them
abbrev pub shipped_steps : SentStreams → List Transfer → List Step
shipped_steps streams [] = []
shipped_steps streams (d ∷ before) =
    record { tick = d.tick; event = shipped_event streams d.what } ∷ shipped_steps streams before

-- the effective time of a run
abbrev pub transfer_time : List Transfer → ℕ
transfer_time [] = 0
transfer_time (d ∷ before) = max d.tick (transfer_time before)

-- a number that was reached, and the deadline that the copy had by which it was
pub record Reach : Type 0 where
  pub number : ℕ
  pub deadline : ℤ

-- the numbers that were reached
abbrev pub numbers_in : List Reach → List ℕ
numbers_in [] = []
numbers_in (reach ∷ reached) = reach.number ∷ numbers_in reached

-- an epoch, in sent numbers: the copy that opened it, the numbers that were reached, the newest first, when the last of
-- them was, and the transits of the originals by which they were
pub record SentEpoch : Type 0 where
  pub start : Start
  pub reached : List Reach
  pub last : ℕ
  pub transits : List ℤ

-- the epoch that a copy of a number opens, before it is looked at
abbrev pub new_sent_epoch : ℕ → ℕ → SentEpoch
new_sent_epoch t n = record { start = record { number = n; time = t }; reached = []; last = t; transits = [] }

-- the deadline of a copy of a number that comes now: as long after the base as its timestamp lies after that of the
-- first copy, and the playout delay more
abbrev pub copy_deadline : Limits → SentStream → SentEpoch → ℕ → ℤ
copy_deadline limits p epoch n =
    clock_base limits epoch.start.time epoch.transits
    +ℤ (pos (p.timestamp n + limits.playout_delay) -ℤ pos (p.timestamp epoch.start.number))

-- how long a copy that comes at a tick was under way, as its timestamp has it
abbrev pub copy_transit : SentStream → Start → ℕ → ℕ → ℤ
copy_transit p s t n = pos (t + p.timestamp s.number) -ℤ pos (p.timestamp n)

-- a number was reached
abbrev pub is_reached : List Reach → ℕ → Bool
is_reached reached n = list_any (λ j. j.number == n) reached

-- a number is out: the same or a higher one was reached, and is past its deadline
abbrev pub is_number_out : List Reach → ℕ → ℕ → Bool
is_number_out reached t n = list_any (λ k. nat_le n k.number && int_le k.deadline (pos t)) reached

-- a copy reaches its number: its deadline lies ahead, by at most twice the playout delay; no number from its own on is
-- out; its number was not reached before; and no number that was reached and is not out lies the capacity or more away
abbrev pub reaches : Limits → SentStream → SentEpoch → ℕ → ℕ → Bool
reaches limits p epoch t n =
    not (int_le (copy_deadline limits p epoch n) (pos t))
    && (not (is_number_out epoch.reached t n)
    && (not (int_lt (pos (t + 2 * limits.playout_delay)) (copy_deadline limits p epoch n))
    && (not (is_reached epoch.reached n)
    && not (list_any (λ j. not (is_number_out epoch.reached t j.number) && nat_le limits.capacity (distance j.number n))
    epoch.reached))))

-- an epoch after a copy of a number of its stream
abbrev pub sent_epoch_with : Limits → SentStream → SentEpoch → ℕ → ℕ → Bool → SentEpoch
sent_epoch_with limits p epoch t n again =
    record {
      start = epoch.start;
      reached =
          if reaches limits p epoch t n then record { number = n; deadline = copy_deadline limits p epoch n }
          ∷ epoch.reached else epoch.reached;
      last = if reaches limits p epoch t n then t else epoch.last;
      transits =
          if reaches limits p epoch t n && not again then copy_transit p epoch.start t n ∷ epoch.transits
          else epoch.transits;
    }

-- the epochs after a copy: it comes in the newest one, where it names that, and else it opens the next
abbrev pub sent_epochs_with : Limits → SentStreams → List SentEpoch → ℕ → ℕ → ℕ → Bool → List SentEpoch
sent_epochs_with limits streams [] t epoch n again =
    sent_epoch_with limits (streams epoch) (new_sent_epoch t n) t n again ∷ []
sent_epochs_with limits streams (current ∷ earlier) t epoch n again =
    if epoch == length earlier
    then sent_epoch_with limits (streams epoch) current t n again ∷ earlier
    else sent_epoch_with limits (streams epoch) (new_sent_epoch t n) t n again ∷ current ∷ earlier

-- the epochs after one more step
abbrev pub sent_epochs_after : Limits → SentStreams → List SentEpoch → ℕ → Shipment → List SentEpoch
sent_epochs_after limits streams epochs t (CopyIn epoch n again) =
    sent_epochs_with limits streams epochs t epoch n again
sent_epochs_after limits streams epochs t (Foreign arrival) = epochs
sent_epochs_after limits streams epochs t NoPacket = epochs

-- the epochs of a run, in sent numbers, the newest first
abbrev pub sent_epochs : Limits → SentStreams → List Transfer → List SentEpoch
sent_epochs limits streams [] = []
sent_epochs limits streams (d ∷ before) =
    sent_epochs_after limits streams (sent_epochs limits streams before) (transfer_time (d ∷ before)) d.what

-- an arrival of a flow opens an epoch after another one: it is of another flow, there is a restart time, each number
-- that was reached is out, and the last one was reached the restart time ago or longer
abbrev pub follows_epoch : Limits → SentStream → SentEpoch → ℕ → ℕ → Bool
follows_epoch limits p current t flow =
    not (flow == p.flow)
    && (nat_lt 0 limits.restart_time
    && (not (list_any (λ j. not (is_number_out current.reached t j.number)) current.reached)
    && nat_le (current.last + limits.restart_time) t))

-- a copy belongs to the newest epoch, where it names that, and is near enough to the greatest number reached for its
-- words to tell it apart; else it opens the next, and names that
pub record BelongsBehind (limits : Limits) (streams : SentStreams) (current : SentEpoch) (earlier : List SentEpoch)
    (t epoch n : ℕ) : Type 0 where
  pub near : (epoch == length earlier) ≡ true
      → IsNear (streams epoch) current.start.number (greatest_of (numbers_in current.reached)) n
  pub names : (epoch == length earlier) ≡ false → epoch ≡ length (current ∷ earlier)
  pub opens : (epoch == length earlier) ≡ false
      → follows_epoch limits (streams (length earlier)) current t (streams epoch).flow ≡ true

-- the first copy opens the first epoch
abbrev pub BelongsTo : Limits → SentStreams → List SentEpoch → ℕ → ℕ → ℕ → Type 0
BelongsTo limits streams [] t epoch n = epoch ≡ 0
BelongsTo limits streams (current ∷ earlier) t epoch n = BelongsBehind limits streams current earlier t epoch n

-- a packet of another flow than the newest epoch's, which opens none
abbrev pub IsForeign : Limits → SentStreams → List SentEpoch → ℕ → ℕ → Type 0
IsForeign limits streams [] t flow = ⊥
IsForeign limits streams (current ∷ earlier) t flow =
    ((flow == (streams (length earlier)).flow) ≡ false)
    × (follows_epoch limits (streams (length earlier)) current t flow ≡ false)

-- each packet of its epoch's flow is a copy of what was sent in that epoch; any other is free
abbrev pub BelongsAfter : Limits → SentStreams → List SentEpoch → ℕ → Shipment → Type 0
BelongsAfter limits streams epochs t (CopyIn epoch n again) = BelongsTo limits streams epochs t epoch n
BelongsAfter limits streams epochs t (Foreign arrival) = IsForeign limits streams epochs t arrival.flow
BelongsAfter limits streams epochs t NoPacket = Unit {0}

-- each arrival of a run is as the sent streams allow
abbrev pub AreTransfersOf : Limits → SentStreams → List Transfer → Type 0
AreTransfersOf limits streams [] = Unit {0}
AreTransfersOf limits streams (d ∷ before) =
    BelongsAfter limits streams (sent_epochs limits streams before) (transfer_time (d ∷ before)) d.what
    × AreTransfersOf limits streams before

-- the payloads of the numbers that were reached: epoch after epoch, each one's by rising number, each once
abbrev pub reached_payloads : SentStreams → List SentEpoch → List (List ℕ)
reached_payloads streams [] = []
reached_payloads streams (current ∷ earlier) =
    reached_payloads streams earlier
    ++ map (streams (length earlier)).payload (rising_numbers (numbers_in current.reached))
