-- A turn of a run: one moment of the clock, the next piece where it is due and there, one read of each link, and one
-- tick, in this order (this profile).
use Rattle.std.specs.Prelude.{◌≡◌, ◌⊎◌, ℕ, ◌+◌, nat_le, List, [], ◌∷◌, ◌++◌, length, set, slice_index_or, Bool, true}
use Rattle.std.specs.Prelude.{false, not, ◌&&◌, if◌then◌else◌, Option, None, Some, Result, Ok, Err}
use Rattle.std.specs.List.{range_with_len}
use Rattle.std.specs.Option.{option_map}
use Rattle.outside_net.specs.Streams.{later, IsFirst}
use Rattle.outside_net.specs.Links.{Answer, Gave, Quiet, End, Failed}
use Rattle.rtcp_compound.specs.Compound.{Content}
use Rattle.sender_rules.specs.declared.send_bad.SendBad.{SendBad}
use Rattle.sender_rules.specs.declared.send_bad.SendBad.TheVariants.{Spent, LinksDown}
use Rattle.rist_sender.specs.History.{is_down}
use Rattle.rist_sender.specs.Calls.{IfElse, Sends, FeedsBack, Ticks}
use Rattle.block_source.specs.declared.fault.PieceFault.{PieceFault}
use Rattle.block_source.specs.Reading.{ReadsPiece}
use Rattle.rist_sender.specs.Incoming.{compound_in}
use Rattle.rist_send.specs.declared.fault.SendFault.{SendFault}
use Rattle.rist_send.specs.declared.progress.Stage.{Stage}
use Rattle.rist_send.specs.declared.progress.Stage.TheVariants.{Reading, Ended}
use Rattle.rist_send.specs.Payloads.{ReadsPayload}
use Rattle.rist_send.specs.Run.{Setup, Run, begun_at, is_due, fault_of, outcome}

-- ---- parts in order

-- nothing is done
abbrev pub Stays : Result Unit SendFault → Run → Run → Type 0
Stays result from to = (result ≡ Ok tt) × (to ≡ from)

-- what follows a part of a turn: nothing, where that was refused
abbrev pub GoesOn : (Result Unit SendFault → Run → Run → Type 0) → Result Unit SendFault → Result Unit SendFault → Run
    → Run → Type 0
GoesOn P (Ok done) result from to = P result from to
GoesOn P (Err fault) result from to = (result ≡ Err fault) × (to ≡ from)

-- a part of a turn, and then another
pub record Follows (P Q : Result Unit SendFault → Run → Run → Type 0) (result : Result Unit SendFault)
    (from to : Run) : Type 0 where
  pub first : Result Unit SendFault
  pub between : Run
  pub before : P first from between
  pub after : GoesOn Q first result between to

-- ---- the next piece

-- a piece counts as sent unless there was no pair or no number for it
abbrev pub sent_with : List ℕ → Result Unit SendBad → List (List ℕ)
sent_with piece (Ok done) = piece ∷ []
sent_with piece (Err LinksDown) = piece ∷ []
sent_with piece (Err Spent) = []

-- a piece is sent
pub record SendsPiece (setup : Setup) (piece : List ℕ) (result : Result Unit SendFault) (from to : Run) : Type 0 where
  pub answer : Result Unit SendBad
  pub sends : Sends setup.rules setup.links from.progress.moment piece answer from.work to.work
  pub answers : result ≡ outcome answer
  pub is : to ≡ record from { work = to.work; sent = from.sent ++ sent_with piece answer }

-- After a piece of fewer octets than it has while the source goes on, this has ended. A piece of octets has 1,316 then,
-- since a read gave nothing where it has fewer, and a payload has one.
abbrev pub stage_after : ℕ → ℕ → ℕ → ℕ → Stage
stage_after moment k least count = if nat_le least count then Reading (k + 1) else Ended moment

-- piece k was read, of so many octets
abbrev pub with_piece : ℕ → ℕ → ℕ → Run → Run
with_piece k least count run =
    record run { progress = record run.progress { stage = stage_after run.progress.moment k least count } }

-- what follows a read of piece k: the piece is sent, or the read's fault is answered
abbrev pub SendsRead : Setup → ℕ → ℕ → Result (List ℕ) PieceFault → Result Unit SendFault → Run → Run → Type 0
SendsRead setup k least (Err fault) result from to = (result ≡ Err (fault_of fault)) × (to ≡ from)
SendsRead setup k least (Ok []) result from to = Stays result (with_piece k least 0 from) to
SendsRead setup k least (Ok (octet ∷ octets)) result from to =
    SendsPiece setup (octet ∷ octets) result (with_piece k least (length (octet ∷ octets)) from) to

-- piece k of the source's octets is read and sent
pub record BringsPiece (setup : Setup) (k : ℕ) (result : Result Unit SendFault) (from to : Run) : Type 0 where
  -- a source that tells payloads isn't read by its octets; what it tells of them then is free
  pub untold : from.payloads ≡ None
  pub payloads : Option (List (List ℕ))
  pub left : Option (List ℕ)
  pub reading : Result (List ℕ) PieceFault
  pub reads : ReadsPiece k from.octets left reading
  pub sends : SendsRead setup k 1316 reading result (record from { octets = left; payloads = payloads }) to

-- the payload of the next datagram is read, whole, and sent as piece k
pub record BringsPayload (setup : Setup) (k : ℕ) (result : Result Unit SendFault) (from to : Run) : Type 0 where
  -- a source that tells its octets doesn't come in datagrams
  pub untold : from.octets ≡ None
  pub left : Option (List (List ℕ))
  pub reading : Result (List ℕ) PieceFault
  pub reads : ReadsPayload k from.payloads left reading
  pub sends : SendsRead setup k 1 reading result (record from { payloads = left }) to

-- The turn goes on without the next piece, where the source isn't one that tells its octets: these say always that it is
-- there.
pub record Awaits (result : Result Unit SendFault) (from to : Run) : Type 0 where
  pub untold : from.octets ≡ None
  pub stays : Stays result from to

-- piece k is read and sent, as octets or as a payload
abbrev pub BringsThere : Setup → ℕ → Result Unit SendFault → Run → Run → Type 0
BringsThere setup k result from to = BringsPiece setup k result from to ⊎ BringsPayload setup k result from to

-- piece k, which is due, is read and sent, as octets or as a payload, unless the source said that it isn't there
abbrev pub BringsDue : Setup → ℕ → Result Unit SendFault → Run → Run → Type 0
BringsDue setup k result from to =
    BringsPiece setup k result from to ⊎ (BringsPayload setup k result from to ⊎ Awaits result from to)

-- the next piece is read and sent, where it is due and there
abbrev pub BringsNext : Setup → Stage → Result Unit SendFault → Run → Run → Type 0
BringsNext setup (Reading k) result from to =
    IfElse (is_due setup.settings from.progress k) (BringsDue setup k result from to) (Stays result from to)
BringsNext setup (Ended moment) result from to = Stays result from to

-- ---- the links

-- a link is read where it is up and no read of it came to an end or failed
abbrev pub is_read : ℕ → Run → Bool
is_read link run = not (is_down run.work.history link) && not (slice_index_or run.progress.closed link false)

-- after this answer a link isn't read any more
abbrev pub is_closing : Answer → Bool
is_closing (Gave datagram) = false
is_closing Quiet = false
is_closing End = true
is_closing Failed = true

-- a link gave this answer
abbrev pub with_answer : ℕ → Answer → Run → Run
with_answer link answer run = record run {
  progress =
      record run.progress {
        closed = if is_closing answer then set run.progress.closed link true
            else run.progress.closed;
      };
  answers = set run.answers link (option_map later (slice_index_or run.answers link None));
}

-- a compound is answered
pub record AnswersTo (setup : Setup) (link : ℕ) (compound : List Content) (result : Result Unit SendFault)
    (from to : Run) : Type 0 where
  pub answer : Result ℕ SendBad
  pub feeds : FeedsBack setup.rules setup.links from.progress.moment link compound answer from.work to.work
  pub answers : result ≡ outcome answer
  pub is : to ≡ record from { work = to.work }

-- what came, where it is a compound, is answered
abbrev pub AnswersIf : Setup → ℕ → Option (List Content) → Result Unit SendFault → Run → Run → Type 0
AnswersIf setup link None result from to = Stays result from to
AnswersIf setup link (Some compound) result from to = AnswersTo setup link compound result from to

-- a link is read, once
pub record ReadsOn (setup : Setup) (link : ℕ) (result : Result Unit SendFault) (from to : Run) : Type 0 where
  pub answer : Answer
  pub first : IsFirst (slice_index_or from.answers link None) answer
  pub answers : AnswersIf setup link (compound_in setup.session answer) result (with_answer link answer from) to

-- a link is read once, where it is still read
abbrev pub ReadsLink : Setup → ℕ → Result Unit SendFault → Run → Run → Type 0
ReadsLink setup link result from to =
    IfElse (is_read link from) (ReadsOn setup link result from to) (Stays result from to)

-- one link after another is read
abbrev pub ReadsInTurn : Setup → List ℕ → Result Unit SendFault → Run → Run → Type 0
ReadsInTurn setup [] result from to = Stays result from to
ReadsInTurn setup (link ∷ links) result from to =
    Follows (ReadsLink setup link) (ReadsInTurn setup links) result from to

-- ---- the tick

-- the sender's clock ticks
pub record TicksOnce (setup : Setup) (result : Result Unit SendFault) (from to : Run) : Type 0 where
  pub answer : Result Unit SendBad
  pub ticks : Ticks setup.rules setup.links from.progress.moment answer from.work to.work
  pub answers : result ≡ outcome answer
  pub is : to ≡ record from { work = to.work }

-- ---- the turn

-- the links are read, and then the sender's clock ticks
abbrev pub ReadsAndTicks : Setup → Result Unit SendFault → Run → Run → Type 0
ReadsAndTicks setup result from to =
    Follows (ReadsInTurn setup (range_with_len 0 setup.links)) (TicksOnce setup) result from to

-- the clock gave this moment
abbrev pub with_moment : ℕ → Run → Run
with_moment moment run = record run { progress = begun_at moment run.progress; moments = option_map later run.moments }

-- a turn: a moment, the next piece, the links, and the tick
pub record Turn (setup : Setup) (result : Result Unit SendFault) (from to : Run) : Type 0 where
  pub moment : ℕ
  pub first : IsFirst from.moments moment
  pub parts : Follows (BringsNext setup from.progress.stage) (ReadsAndTicks setup) result (with_moment moment from) to
