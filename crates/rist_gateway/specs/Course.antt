-- What a gateway's sending end does: it sends pieces on, and looks at what comes back on its links (this profile).
use Rattle.std.specs.Prelude.{◌≡◌, ◌<◌, ℕ, nat_lt, List, [], ◌∷◌, ◌++◌, length, take, drop, set, slice_index_or, Bool}
use Rattle.link_channels.specs.declared.bounds.TheConstants.{MAX_PAYLOAD}
use Rattle.std.specs.Prelude.{true, false, Option, None, Some, Result, Ok, Err}
use Rattle.std.specs.Option.{option_map}
use Rattle.outside_net.specs.Streams.{later, IsFirst}
use Rattle.outside_net.specs.Links.{Answer, Gave, Quiet, End, Failed}
use Rattle.rtcp_compound.specs.Compound.{Content}
use Rattle.rist_wire.specs.declared.session.Session.{Session}
use Rattle.sender_rules.specs.declared.send_bad.SendBad.{SendBad}
use Rattle.rist_sender.specs.Calls.{Work, Rules, IfElse, Sends, FeedsBack, Ticks}
use Rattle.rist_sender.specs.Incoming.{compound_in}
use Rattle.rist_desk.specs.declared.beside.Side.{Side}
use Rattle.rist_desk.specs.declared.beside.Side.TheVariants as sides

-- what it is set to: its sender's rules, its session, and how many links it has
pub record Setup : Type 0 where
  pub rules : Rules
  pub session : Session
  pub links : ℕ

-- what its clock has still to give, where it tells it, and the octets of the payloads that its sender took, one after
-- another
pub record Passed : Type 0 where
  pub moments : Option (ℕ → ℕ)
  pub sent : List ℕ

-- how far it has come: what its sender did, what has passed, and what the reads of each of its links have still to
-- give, where they tell it
pub record Course : Type 0 where
  pub work : Work
  pub passed : Passed
  pub answers : List (Option (ℕ → Answer))

-- ---- pieces

-- a payload is sent, if it isn't refused
abbrev pub sent_after : List ℕ → List ℕ → Result Unit SendBad → List ℕ
sent_after sent part (Ok done) = sent ++ part
sent_after sent part (Err bad) = sent

-- what has passed then
abbrev pub passed_after : Passed → List ℕ → Result Unit SendBad → Passed
passed_after passed part result =
    record { moments = option_map later passed.moments; sent = sent_after passed.sent part result }

-- a part of a piece is sent as one payload, at the next moment of the clock
pub record SendsPart (setup : Setup) (part : List ℕ) (result : Result Unit SendBad) (from to : Course) : Type 0 where
  pub moment : ℕ
  pub first : IsFirst from.passed.moments moment
  pub sends : Sends setup.rules setup.links moment part result from.work to.work
  pub is : to ≡ record from { work = to.work; passed = passed_after from.passed part result }

-- what follows a part: nothing, where that was refused
abbrev pub GoesOn : (Result Unit SendBad → Course → Course → Type 0) → Result Unit SendBad → Result Unit SendBad
    → Course → Course → Type 0
GoesOn P (Ok done) result from to = P result from to
GoesOn P (Err bad) result from to = (result ≡ Err bad) × (to ≡ from)

-- one part after another, up to one that is refused
abbrev pub SendsParts : Setup → List (List ℕ) → Result Unit SendBad → Course → Course → Type 0
SendsParts setup [] result from to = (result ≡ Ok tt) × (to ≡ from)
SendsParts setup (part ∷ parts) result from to =
    (first : Result Unit SendBad) × (between : Course) × SendsPart setup part first from between
    × GoesOn (SendsParts setup parts) first result between to

-- The octets in parts of 1,500, of which the last may have fewer: what a receiver plays out at once is one part.
abbrev pub AreParts : List (List ℕ) → List ℕ → Type 0
AreParts [] octets = octets ≡ []
AreParts (part ∷ parts) octets =
    (0 < length octets) × (part ≡ take MAX_PAYLOAD octets) × AreParts parts (drop MAX_PAYLOAD octets)

-- a piece is sent on
pub record SendsOn (setup : Setup) (piece : List ℕ) (result : Result Unit SendBad) (from to : Course) : Type 0 where
  pub parts : List (List ℕ)
  pub cut : AreParts parts piece
  pub sends : SendsParts setup parts result from to

-- ---- looks

-- a link gave the next of its answers
abbrev pub with_read : ℕ → Course → Course
with_read link course =
    record course { answers = set course.answers link (option_map later (slice_index_or course.answers link None)) }

-- the sender's clock ticks
pub record TicksOnce (setup : Setup) (micros : ℕ) (result : Result Unit SendBad) (from to : Course) : Type 0 where
  pub ticks : Ticks setup.rules setup.links micros result from.work to.work
  pub is : to ≡ record from { work = to.work }

-- a compound that came on a link is answered there
pub record AnswersOnce (setup : Setup) (micros link : ℕ) (compound : List Content) (result : Result ℕ SendBad)
    (from to : Course) : Type 0 where
  pub feeds : FeedsBack setup.rules setup.links micros link compound result from.work to.work
  pub is : to ≡ record from { work = to.work }

-- a tick, unless the answer was refused
abbrev pub TicksAfter : Setup → ℕ → Result ℕ SendBad → Result Unit SendBad → Course → Course → Type 0
TicksAfter setup micros (Ok count) result from to = TicksOnce setup micros result from to
TicksAfter setup micros (Err bad) result from to = (result ≡ Err bad) × (to ≡ from)

-- the compound that came, if one did, is answered, and then the sender ticks
abbrev pub AnswersAndTicks : Setup → ℕ → ℕ → Option (List Content) → Result Unit SendBad → Course → Course → Type 0
AnswersAndTicks setup micros link None result from to = TicksOnce setup micros result from to
AnswersAndTicks setup micros link (Some compound) result from to =
    (answer : Result ℕ SendBad) × (between : Course) × AnswersOnce setup micros link compound answer from between
    × TicksAfter setup micros answer result between to

-- what a look came to, where a datagram came or none was there, after so many puts
abbrev pub side_of : Bool → ℕ → Result Unit SendBad → Side
side_of true puts (Ok done) = sides.Took puts
side_of false puts (Ok done) = sides.Quiet puts
side_of came puts (Err bad) = sides.Bad bad

-- what follows a read
abbrev pub AfterRead : Setup → ℕ → ℕ → ℕ → Answer → Side → Course → Course → Type 0
AfterRead setup micros link puts (Gave datagram) side from to =
    (result : Result Unit SendBad)
    × AnswersAndTicks setup micros link (compound_in setup.session (Gave datagram)) result from to
    × (side ≡ side_of true puts result)
AfterRead setup micros link puts Quiet side from to =
    (result : Result Unit SendBad) × TicksOnce setup micros result from to × (side ≡ side_of false puts result)
AfterRead setup micros link puts End side from to = (side ≡ sides.End) × (to ≡ from)
AfterRead setup micros link puts Failed side from to = (side ≡ sides.Failed) × (to ≡ from)

-- a link is read, once
pub record ReadsOnce (setup : Setup) (micros link puts : ℕ) (side : Side) (from to : Course) : Type 0 where
  pub answer : Answer
  pub first : IsFirst (slice_index_or from.answers link None) answer
  pub after : AfterRead setup micros link puts answer side (with_read link from) to

-- a look at a link; one that isn't there has nothing to give
abbrev pub LooksAt : Setup → ℕ → ℕ → ℕ → Side → Course → Course → Type 0
LooksAt setup micros link puts side from to =
    IfElse (nat_lt link setup.links) (ReadsOnce setup micros link puts side from to) ((side ≡ sides.End) × (to ≡ from))

-- ---- deeds

-- a payload was handed to the sender, which answered so; or a link was looked at, at a moment and after so many puts,
-- which came to this
pub data Deed : Type 0 where
  Sent : List ℕ → Result Unit SendBad → Deed
  Looked : ℕ → ℕ → ℕ → Side → Deed

-- what a deed does
abbrev pub Does : Setup → Deed → Course → Course → Type 0
Does setup (Sent part result) from to = SendsPart setup part result from to
Does setup (Looked micros link puts side) from to = LooksAt setup micros link puts side from to

-- deeds one after another, the newest first
abbrev pub DoesAll : Setup → List Deed → Course → Course → Type 0
DoesAll setup [] from to = to ≡ from
DoesAll setup (deed ∷ before) from to =
    (between : Course) × DoesAll setup before from between × Does setup deed between to
