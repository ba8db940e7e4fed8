-- The rules for one arrival, given the packets that were kept before it (this profile; numbers are extended in the
-- sense of RFC 3550, appendix A.1, and a retransmission is a packet like any other: VSF TR-06-1).
use Rattle.std.specs.Prelude.{ℕ, ℤ, pos, ◌+ℤ◌, ◌-ℤ◌, int_le, int_lt, ◌≤◌, ◌+◌, ◌-◌, ◌*◌, ◌^◌, max, List, [], ◌∷◌, Bool}
use Rattle.std.specs.Prelude.{true, false, not, ◌&&◌, nat_le, nat_lt, ◌==◌, if◌then◌else◌, Option, None, Some}
use Rattle.std.specs.List.{list_any}
use Rattle.receiver_rules.specs.declared.verdict.Verdict.{Verdict}
use Rattle.receiver_rules.specs.declared.verdict.Verdict.TheVariants.{Kept, Stranger, Exhausted, Late, Behind, Early}
use Rattle.receiver_rules.specs.declared.verdict.Verdict.TheVariants.{Twice, Span}
use Rattle.receiver_rules.specs.declared.limits.Limits.{Limits}
use Rattle.receiver_rules.specs.declared.anchor.Anchor.{Anchor}
use Rattle.receiver_rules.specs.declared.anchor.Highest.{Highest}
use Rattle.seq_unwrap.specs.Nearest.{cycle_of, nearest}
use Rattle.receiver_rules.specs.Steps.{Arrival}

-- an arrival with its place in the flow: its extended sequence number and timestamp, when it is to be played out, and
-- its payload
pub record Packet : Type 0 where
  pub number : ℕ
  pub timestamp : ℕ
  pub deadline : ℤ
  pub payload : List ℕ

-- ---- number, timestamp and deadline

-- the kept packet with the highest number, after one more
abbrev pub higher : Packet → Option Highest → Highest
higher p None = record { number = p.number; timestamp = p.timestamp }
higher p (Some highest) =
    if nat_lt highest.number p.number then record { number = p.number; timestamp = p.timestamp } else highest

-- the kept packet with the highest number, where any is kept
abbrev pub highest_of : List Packet → Option Highest
highest_of [] = None
highest_of (p ∷ ps) = Some (higher p (highest_of ps))

-- the first packet's number is 2^40 and its word; each other's is the one nearest to the highest kept number
abbrev pub number_of : Option Highest → Arrival → ℕ
number_of None arrival = 2 ^ 40 + arrival.word
number_of (Some highest) arrival = nearest (cycle_of arrival.width) highest.number arrival.word

-- the timestamp likewise, beside that of the highest kept packet; the first one's is 2^60 and its word, so that none
-- falls below 0, however the deadlines of later packets move
abbrev pub timestamp_of : Option Highest → Arrival → ℕ
timestamp_of None arrival = 2 ^ 60 + arrival.timestamp
timestamp_of (Some highest) arrival = nearest 4294967296 highest.timestamp arrival.timestamp

-- when a packet is to be played out: as long after the base as its timestamp lies after the anchor's, and the playout
-- delay more. A packet that is kept keeps its deadline
abbrev pub deadline_of : Limits → Anchor → ℤ → ℕ → ℤ
deadline_of limits anchor base timestamp = base +ℤ (pos (timestamp + limits.playout_delay) -ℤ pos anchor.timestamp)

-- an arrival with its place
abbrev pub placed_packet : Limits → Anchor → ℤ → Option Highest → Arrival → Packet
placed_packet limits anchor base highest arrival =
    record {
      number = number_of highest arrival;
      timestamp = timestamp_of highest arrival;
      deadline = deadline_of limits anchor base (timestamp_of highest arrival);
      payload = arrival.payload;
    }

-- ---- played out and buffered

-- a moment is a time, or the end of all
pub data Moment : Type 0 where
  At : ℕ → Moment
  Ever : Moment

-- a deadline is at the moment or before it
abbrev pub is_due_by : Moment → ℤ → Bool
is_due_by (At t) deadline = int_le deadline (pos t)
is_due_by Ever deadline = true

-- its deadline has passed at the moment
abbrev pub is_past_deadline : Moment → Packet → Bool
is_past_deadline moment p = is_due_by moment p.deadline

-- played out: some kept packet with the same or a higher number is past its deadline
abbrev pub is_played_out : List Packet → Moment → Packet → Bool
is_played_out accepted moment p = list_any (λ k. nat_le p.number k.number && is_past_deadline moment k) accepted

-- buffered: kept, and not played out
abbrev pub is_buffered : List Packet → Moment → Packet → Bool
is_buffered accepted moment p = not (is_played_out accepted moment p)

-- one above the highest number that was played out, and 0 where none was
abbrev pub playout_floor : List Packet → Moment → ℕ
playout_floor [] moment = 0
playout_floor (k ∷ accepted) moment =
    if is_past_deadline moment k then max (k.number + 1) (playout_floor accepted moment)
    else playout_floor accepted moment

-- ---- the verdict

-- how far two numbers lie apart
abbrev pub distance : ℕ → ℕ → ℕ
distance a b = (a - b) + (b - a)

-- at most some number that was played out
abbrev pub is_behind_playout : List Packet → Moment → Packet → Bool
is_behind_playout accepted moment p =
    list_any (λ k. is_played_out accepted moment k && nat_le p.number k.number) accepted

-- some kept packet has its number
abbrev pub is_duplicate : List Packet → Packet → Bool
is_duplicate accepted p = list_any (λ k. k.number == p.number) accepted

-- some buffered number lies the capacity or more away
abbrev pub is_beyond_capacity : Limits → List Packet → Moment → Packet → Bool
is_beyond_capacity limits accepted moment p =
    list_any (λ k. is_buffered accepted moment k && nat_le limits.capacity (distance k.number p.number)) accepted

-- which tests fit an arrival, in the order in which they are made
pub record Tests : Type 0 where
  -- it is of another flow
  pub stranger : Bool
  -- its number is at the end of all numbers or above it
  pub exhausted : Bool
  -- its deadline has passed
  pub late : Bool
  -- a packet of the same or a higher number was played out
  pub behind : Bool
  -- its deadline lies beyond the arrival window
  pub early : Bool
  -- a kept packet has its number
  pub twice : Bool
  -- a buffered number lies the capacity or more away
  pub span : Bool

-- the first test that fits decides
abbrev pub first_verdict : Tests → Verdict
first_verdict tests =
    if tests.stranger then Stranger
    else if tests.exhausted then Exhausted
    else if tests.late then Late
    else if tests.behind then Behind
    else if tests.early then Early
    else if tests.twice then Twice
    else if tests.span then Span
    else Kept

-- the tests on a packet of a flow at an effective time, by the packets that were kept before it
abbrev pub tests_of : Limits → Anchor → List Packet → ℕ → ℕ → Packet → Tests
tests_of limits anchor accepted t flow p =
    record {
      stranger = not (flow == anchor.flow);
      exhausted = nat_le (2 ^ 62) p.number;
      late = int_le p.deadline (pos t);
      behind = is_behind_playout accepted (At t) p;
      early = int_lt (pos (t + 2 * limits.playout_delay)) p.deadline;
      twice = is_duplicate accepted p;
      span = is_beyond_capacity limits accepted (At t) p;
    }

-- the verdict on an arrival at an effective time
abbrev pub verdict_of : Limits → Anchor → ℤ → List Packet → ℕ → Arrival → Verdict
verdict_of limits anchor base accepted t arrival =
    first_verdict (tests_of limits anchor accepted t arrival.flow
    (placed_packet limits anchor base (highest_of accepted) arrival))

-- the verdict by which a packet is kept
abbrev pub is_kept : Verdict → Bool
is_kept Kept = true
is_kept Stranger = false
is_kept Exhausted = false
is_kept Late = false
is_kept Behind = false
is_kept Early = false
is_kept Twice = false
is_kept Span = false

-- ---- the order of numbers

-- a packet at its place among others that are in order
abbrev pub insert_by_number : Packet → List Packet → List Packet
insert_by_number p [] = p ∷ []
insert_by_number p (q ∷ qs) = if nat_lt p.number q.number then p ∷ q ∷ qs else q ∷ insert_by_number p qs

-- packets by rising number
abbrev pub by_number : List Packet → List Packet
by_number [] = []
by_number (p ∷ ps) = insert_by_number p (by_number ps)

-- the numbers rise strictly, from low on
abbrev pub IsRising : ℕ → List Packet → Type 0
IsRising low [] = Unit {0}
IsRising low (p ∷ ps) = (low ≤ p.number) × IsRising (p.number + 1) ps

-- a packet's number is below the floor
abbrev pub is_below : ℕ → Packet → Bool
is_below floor p = nat_lt p.number floor

-- it is the floor or above it
abbrev pub is_from : ℕ → Packet → Bool
is_from floor p = not (nat_lt p.number floor)
