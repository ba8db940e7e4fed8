-- What a sender's calls write (VSF TR-06-1 for reports, retransmissions and bonding; times and bounds are this
-- profile's).
use Rattle.std.specs.Prelude.{◌≡◌, ◌<◌, ℕ, ◌+◌, ◌%◌, ◌^◌, List, [], ◌∷◌, length, map, Bool, true, false, not, ◌&&◌}
use Rattle.std.specs.Prelude.{◌||◌, nat_le, if◌then◌else◌, Option, None, Some, Result, Ok, Err}
use Rattle.std.specs.List.{flat_map, range_with_len}
use Rattle.ts_nulls.specs.Shape.{Shape}
use Rattle.ts_nulls.specs.Nulls.{stripping_of}
use Rattle.seq_unwrap.specs.Nearest.{cycle_of}
use Rattle.sender_rules.specs.Sendings.{Packet}
use Rattle.sender_rules.specs.Bonding.{Bonding, Duplicate, Share, link_for, links_from}
use Rattle.link_channels.specs.Intervals.{has_passed_since, report_interval, keepalive_interval}
use Rattle.sender_rules.specs.Retransmissions.{AskedNumber, packets_to_send_again}
use Rattle.rtcp_compound.specs.Compound.{Content}
use Rattle.rist_nack.specs.declared.ask.Ask.{Ask}
use Rattle.rist_nack.specs.Asked.{asks_in, following}
use Rattle.rist_rtt.specs.Echo.{EchoOf, echoes_in}
use Rattle.psk_seal.specs.declared.sealer.Pair.{Pair}
use Rattle.psk_seal.specs.Sealer.{SealerState}
use Rattle.rist_wire.specs.Writing.{next_pair, after_pair, is_spent}
use Rattle.rist_sender.specs.declared.answer.Answer.{Answer}
use Rattle.sender_rules.specs.declared.send_bad.SendBad.{SendBad}
use Rattle.sender_rules.specs.declared.send_bad.SendBad.TheVariants.{Spent, LinksDown}
use Rattle.rist_sender.specs.Links.{is_failed}
use Rattle.rist_sender.specs.Messages.{Message, Original, Retransmission, Report, RttAnswer, Alive, Status}
use Rattle.rist_rtt.specs.Echo.{first_request}
use Rattle.rist_sender.specs.History.{Write, Event, Called, Sent, Wrote, Renewed, effective_time, sendings_of}
use Rattle.rist_sender.specs.History.{packet_count, octet_count, again_count, is_down, is_report, is_alive, last_time}

-- what a sender did, the sealer that gives its pairs if it has one, and whether its last call came to a datagram for
-- which there was no pair
pub record Work : Type 0 where
  pub history : List Event
  pub sealer : Option SealerState
  pub is_short : Bool

-- the work after one more event
abbrev pub with_event : Event → Work → Work
with_event event work = record { history = event ∷ work.history; sealer = work.sealer; is_short = work.is_short }

-- the work where a call begins
abbrev pub called_at : ℕ → Work → Work
called_at micros work = record { history = Called micros ∷ work.history; sealer = work.sealer; is_short = false }

-- the work where another flow begins: numbers and counts are those of this flow, and sealer, effective time and links
-- are those of before
abbrev pub renewed_as : ℕ → ℕ → Work → Work
renewed_as flow first work = record {
  history = Renewed flow first ∷ work.history;
  sealer = work.sealer;
  is_short = false;
}

-- the work where a datagram has no pair
abbrev pub without_pair : Work → Work
without_pair work = record { history = work.history; sealer = work.sealer; is_short = true }

-- one of two facts
abbrev pub IfElse : Bool → Type 0 → Type 0 → Type 0
IfElse true P Q = P
IfElse false P Q = Q

-- ---- datagrams that are due

-- what is due on a link
pub record Due : Type 0 where
  pub link : ℕ
  pub message : Message

-- a datagram as it was written
abbrev pub written_as : ℕ → Option Pair → Due → Answer → Write
written_as tick pair due answer =
    record { link = due.link; message = due.message; pair = pair; tick = tick; answer = answer }

-- a datagram that is due was enciphered under the next pair and written, with this answer
abbrev pub after_write : ℕ → Due → Answer → Work → Work
after_write tick due answer work = record {
  history = Wrote (written_as tick (next_pair work.sealer) due answer) ∷ work.history;
  sealer = after_pair work.sealer;
  is_short = work.is_short;
}

-- nothing is made for a link that is down, nor where no pair is left
abbrev pub after_due : ℕ → Due → Answer → Work → Work
after_due tick due answer work =
    if is_down work.history due.link then work
    else (if is_spent work.sealer then without_pair work else after_write tick due answer work)

-- datagrams that are due are written one after another, each with whatever its link answers
abbrev pub WritesInTurn : ℕ → List Due → Work → Work → Type 0
WritesInTurn tick [] from to = to ≡ from
WritesInTurn tick (due ∷ dues) from to = (answer : Answer) × WritesInTurn tick dues (after_due tick due answer from) to

-- ---- a payload

-- a payload whole, or without its null packets
abbrev pub packet_with : ℕ → ℕ → List ℕ → Option (Shape × List ℕ) → Packet
packet_with number timestamp payload None =
    record { number = number; timestamp = timestamp; strip = None; payload = payload }
packet_with number timestamp payload (Some told) =
    record { number = number; timestamp = timestamp; strip = Some told.0; payload = told.1 }

-- The packet that a payload is sent as: its timestamp is the effective time of its call, and where null packets are
-- deleted, a payload from which none can be deleted is sent whole.
abbrev pub packet_for : Bool → ℕ → ℕ → List ℕ → Packet
packet_for nulls number tick payload =
    packet_with number (tick % 2 ^ 32) payload (if nulls then stripping_of payload else None)

-- the links that payload k is tried on, in order: by duplication each, by sharing from its own link on, cyclically
abbrev pub links_tried : Bonding → ℕ → List ℕ
links_tried (Duplicate links) k = range_with_len 0 links
links_tried (Share weights) k = links_from (link_for weights k) (length weights)

-- one link is enough for a payload: by sharing, not by duplication
abbrev pub is_sharing : Bonding → Bool
is_sharing (Duplicate links) = false
is_sharing (Share weights) = true

-- the work after the one datagram of a payload, enciphered once, was tried on a link: it is written unless that is down
abbrev pub after_copy : ℕ → Option Pair → Message → ℕ → Answer → Work → Work
after_copy tick pair message link answer work =
    if is_down work.history link then work
    else with_event (Wrote (written_as tick pair (record { link = link; message = message }) answer)) work

-- a payload's datagram went on a link, and one is enough: the link was up, and the write didn't fail
abbrev pub is_settled : Bool → ℕ → Answer → Work → Bool
is_settled one link answer work = one && (not (is_down work.history link) && not (is_failed answer))

-- a payload's datagram is tried on one link after another; where one is enough, up to the first write that doesn't fail
abbrev pub Spreads : Bool → ℕ → Option Pair → Message → List ℕ → Work → Work → Type 0
Spreads one tick pair message [] from to = to ≡ from
Spreads one tick pair message (link ∷ links) from to =
    (answer : Answer)
    × IfElse (is_settled one link answer from)
    (to ≡ after_copy tick pair message link answer from)
    (Spreads one tick pair message links (after_copy tick pair message link answer from) to)

-- the work after a payload took its number, and its datagram its pair
abbrev pub after_sent : Packet → Work → Work
after_sent packet work =
    record { history = Sent packet ∷ work.history; sealer = after_pair work.sealer; is_short = work.is_short }

-- a payload can't be sent: its number would be 2^62, or no pair is left
abbrev pub is_ended : ℕ → Work → Bool
is_ended number work = nat_le (2 ^ 62) number || is_spent work.sealer

-- what a sender is set to: its flow, its first number, for how many ticks a packet isn't sent again, how many packets
-- are stored, its links, whether null packets are deleted, and whether it writes keepalives
pub record Rules : Type 0 where
  pub flow : ℕ
  pub first : ℕ
  pub hold : ℕ
  pub size : ℕ
  pub bonding : Bonding
  pub nulls : Bool
  pub keepalives : Bool

-- a packet is sent, payload k
abbrev pub SendsPacket : Rules → ℕ → ℕ → Packet → Work → Work → Type 0
SendsPacket rules k tick packet from to =
    Spreads (is_sharing rules.bonding) tick (next_pair from.sealer) (Original packet) (links_tried rules.bonding k)
    (after_sent packet from) to

-- a payload is sent: nothing is written where it can't be
abbrev pub SendsNext : Rules → List ℕ → Work → Work → Type 0
SendsNext rules payload from to =
    IfElse (is_ended (rules.first + packet_count from.history) from)
    (to ≡ without_pair from)
    (SendsPacket rules (packet_count from.history) (effective_time from.history)
    (packet_for rules.nulls (rules.first + packet_count from.history) (effective_time from.history) payload) from to)

-- ---- the answer to a compound

-- the numbers of an ask, one after another
abbrev pub numbers_of : Ask → List AskedNumber
numbers_of ask =
    map (λ word. record { width = ask.width; word = word }) (following (cycle_of ask.width) (ask.more + 1) ask.first)

-- the numbers of a flow that a compound asks for
abbrev pub asked_numbers : ℕ → List Content → List AskedNumber
asked_numbers flow compound = flat_map numbers_of (asks_in (Some flow) compound)

-- the status at a call of this moment
abbrev pub status_at : ℕ → List Event → Status
status_at micros history = record { micros = micros; packets = packet_count history; octets = octet_count history }

-- an RTT request is answered
abbrev pub rtt_answer : Status → Option EchoOf → List Message
rtt_answer status None = []
rtt_answer status (Some echo) = RttAnswer status echo ∷ []

-- messages that are due on a link
abbrev pub on_link : ℕ → List Message → List Due
on_link link messages = map (λ message. record { link = link; message = message }) messages

-- the packets that are to be sent again
abbrev pub packets_again : Rules → List Event → List Content → List Packet
packets_again rules history compound =
    packets_to_send_again rules.size rules.hold (sendings_of history) (effective_time history)
    (asked_numbers rules.flow compound)

-- A compound that came on a link is answered there: first its first RTT request, and then the retransmissions follow.
pub record AnswersOn (rules : Rules) (micros link : ℕ) (compound : List Content) (from to : Work) : Type 0 where
  pub between : Work
  pub request : WritesInTurn (effective_time from.history)
      (on_link link (rtt_answer (status_at micros from.history) (first_request (echoes_in compound)))) from between
  pub again : WritesInTurn (effective_time between.history)
      (on_link link (map Retransmission (packets_again rules between.history compound))) between to

-- ---- ticks

-- the report of a link, where it is due
abbrev pub report_due : ℕ → List Event → ℕ → List Message
report_due micros history link =
    if has_passed_since report_interval (effective_time history) (last_time is_report history link)
    then Report (status_at micros history) ∷ [] else []

-- the keepalive of a link, where it is due
abbrev pub keepalive_due : Bool → List Event → ℕ → List Message
keepalive_due keepalives history link =
    if keepalives && has_passed_since keepalive_interval (effective_time history) (last_time is_alive history link)
    then Alive ∷ [] else []

-- a tick on one link: its report, and then its keepalive
pub record TicksOn (keepalives : Bool) (micros link : ℕ) (from to : Work) : Type 0 where
  pub between : Work
  pub report : WritesInTurn (effective_time from.history) (on_link link (report_due micros from.history link)) from
      between
  pub keepalive : WritesInTurn (effective_time between.history)
      (on_link link (keepalive_due keepalives between.history link)) between to

-- a tick on one link after another
abbrev pub TicksInTurn : Bool → ℕ → List ℕ → Work → Work → Type 0
TicksInTurn keepalives micros [] from to = to ≡ from
TicksInTurn keepalives micros (link ∷ links) from to =
    (between : Work) × TicksOn keepalives micros link from between × TicksInTurn keepalives micros links between to

-- ---- what a call answers

-- every link is down
abbrev pub AreDown : ℕ → List Event → Type 0
AreDown links history = (link : ℕ) → link < links → is_down history link ≡ true

-- some link is up
pub record IsUp (links : ℕ) (history : List Event) : Type 0 where
  pub link : ℕ
  pub among : link < links
  pub up : is_down history link ≡ false

-- Spent exactly where a datagram has no pair or a payload no number; else LinksDown exactly where every link is down
abbrev pub IsAnswer : {T : Type 0} → ℕ → (T → Type 0) → Result T SendBad → Work → Type 0
IsAnswer links P (Ok x) to = (to.is_short ≡ false) × IsUp links to.history × P x
IsAnswer links P (Err Spent) to = to.is_short ≡ true
IsAnswer links P (Err LinksDown) to = (to.is_short ≡ false) × AreDown links to.history

-- ---- the calls

-- a payload is sent
pub record Sends (rules : Rules) (links micros : ℕ) (payload : List ℕ) (result : Result Unit SendBad)
    (from to : Work) : Type 0 where
  pub writes : SendsNext rules payload (called_at micros from) to
  pub answer : IsAnswer links (λ done. Unit {0}) result to

-- a compound that came on a link is answered; the answer is how many packets were sent again
pub record FeedsBack (rules : Rules) (links micros link : ℕ) (compound : List Content) (result : Result ℕ SendBad)
    (from to : Work) : Type 0 where
  pub writes : AnswersOn rules micros link compound (called_at micros from) to
  pub answer : IsAnswer links (λ count. again_count to.history ≡ again_count from.history + count) result to

-- the sender's own clock ticks
pub record Ticks (rules : Rules) (links micros : ℕ) (result : Result Unit SendBad) (from to : Work) : Type 0 where
  pub writes : TicksInTurn rules.keepalives micros (range_with_len 0 links) (called_at micros from) to
  pub answer : IsAnswer links (λ done. Unit {0}) result to
