-- What senders sent, flow after flow, and what it means that a packet is a copy of it. Flows are told the newest
-- first, and so are the payloads of each.
use Rattle.std.specs.Prelude.{◌≡◌, ◌≤◌, ◌<◌, ℕ, ◌+◌, ◌/◌, ◌^◌, List, [], ◌∷◌, length, Bool, true, false, ◌&&◌, ◌||◌}
use Rattle.std.specs.Prelude.{nat_le, nat_lt, ◌==◌, if◌then◌else◌}
use Rattle.seq_unwrap.specs.declared.width.Width.{Width}
use Rattle.seq_unwrap.specs.Nearest.{cycle_of}
use Rattle.receiver_rules.specs.Steps.{Arrival, Event, Media, TimeOnly, End, Step}
use Rattle.receiver_rules.specs.Sent.{SentStream, copy_of}

-- a payload, and the tick at which it was sent
pub record SentPayload : Type 0 where
  pub tick : ℕ
  pub payload : List ℕ

-- a flow: its SSRC, its first number, and its payloads, whose numbers follow one another
pub record SentFlow : Type 0 where
  pub flow : ℕ
  pub first : ℕ
  pub sent : List SentPayload

-- a flow of this SSRC is among them
abbrev pub is_known : List SentFlow → ℕ → Bool
is_known [] flow = false
is_known (f ∷ fs) flow = f.flow == flow || is_known fs flow

-- the newest flow has one more payload
abbrev pub with_sent : SentPayload → List SentFlow → List SentFlow
with_sent p [] = []
with_sent p (f ∷ fs) = record { flow = f.flow; first = f.first; sent = p ∷ f.sent } ∷ fs

-- ---- as a sent stream

-- the tick at which a number was sent; a number that wasn't yet has that of the last one
abbrev pub tick_at : ℕ → List SentPayload → ℕ → ℕ
tick_at first [] n = 0
tick_at first (p ∷ before) n = if nat_le (first + length before) n then p.tick else tick_at first before n

-- the payload of a number
abbrev pub payload_at : ℕ → List SentPayload → ℕ → List ℕ
payload_at first [] n = []
payload_at first (p ∷ before) n = if n == first + length before then p.payload else payload_at first before n

-- the stream of a flow
abbrev pub stream_in : Width → SentFlow → SentStream
stream_in width f =
    record { flow = f.flow; width = width; timestamp = tick_at f.first f.sent; payload = payload_at f.first f.sent }

-- the stream that was sent under an SSRC, which has nothing where none was
abbrev pub stream_of : Width → List SentFlow → ℕ → SentStream
stream_of width [] flow = record { flow = flow; width = width; timestamp = λ n. 0; payload = λ n. [] }
stream_of width (f ∷ fs) flow = if f.flow == flow then stream_in width f else stream_of width fs flow

-- a number of a flow was sent
abbrev pub was_sent : List SentFlow → ℕ → ℕ → Bool
was_sent [] flow n = false
was_sent (f ∷ fs) flow n =
    if f.flow == flow then nat_le f.first n && nat_lt n (f.first + length f.sent) else was_sent fs flow n

-- ---- copies

-- a packet is a copy of a number that was sent, the original or a retransmission
pub record IsCopy (width : Width) (sent : List SentFlow) (arrival : Arrival) : Type 0 where
  pub number : ℕ
  pub sends : was_sent sent arrival.flow number ≡ true
  pub is : arrival ≡ copy_of (stream_of width sent arrival.flow) number arrival.again

-- what comes with a step is one, or no packet; the stream doesn't end
abbrev pub BringsCopy : Width → List SentFlow → Event → Type 0
BringsCopy width sent (Media arrival) = IsCopy width sent arrival
BringsCopy width sent TimeOnly = Unit {0}
BringsCopy width sent End = ⊥

-- with each step of a history
abbrev pub BringCopies : Width → List SentFlow → List Step → Type 0
BringCopies width sent [] = Unit {0}
BringCopies width sent (step ∷ before) = BringsCopy width sent step.event × BringCopies width sent before

-- ---- short flows

-- a payload was sent in the 2^31 ticks from one on, and not before the last of those that were sent before it
pub record IsSteady (least : ℕ) (p : SentPayload) (before : List SentPayload) : Type 0 where
  pub low : least ≤ p.tick
  pub high : p.tick < least + 2 ^ 31
  pub rises : tick_at 0 before (length before) ≤ p.tick

-- each was
abbrev pub AreSteady : ℕ → List SentPayload → Type 0
AreSteady least [] = Unit {0}
AreSteady least (p ∷ before) = IsSteady least p before × AreSteady least before

-- half a cycle of words has more numbers than were sent
pub record IsShortFlow (width : Width) (low : ℕ) (f : SentFlow) : Type 0 where
  pub few : length f.sent < cycle_of width / 2
  pub steady : AreSteady low f.sent

-- each flow is short
abbrev pub AreShortFlows : Width → ℕ → List SentFlow → Type 0
AreShortFlows width low [] = Unit {0}
AreShortFlows width low (f ∷ fs) = IsShortFlow width low f × AreShortFlows width low fs
