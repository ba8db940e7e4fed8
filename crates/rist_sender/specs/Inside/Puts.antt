-- Parts of calls: one datagram that was due on a link that is up, and what is due for a part of a call.
use Rattle.std.specs.Prelude.{◌≡◌, ℕ, ◌+◌, Bool, true, false, List, map, take, ◌++◌, ◌-◌, Option, None, Some, Result}
use Rattle.std.specs.Prelude.{Ok, Err}
use Rattle.std.specs.List.{filter, filter_map, range_with_len}
use Rattle.sender_rules.specs.Sendings.{Packet, Sending, last_sent_again}
use Rattle.sender_rules.specs.Stored.{stored_packets, packet_for}
use Rattle.link_channels.specs.Intervals.{has_passed_since}
use Rattle.sender_rules.specs.Retransmissions.{AskedNumber, each_once}
use Rattle.sender_rules.specs.declared.bounds.TheConstants.{MAX_SENT_AGAIN}
use Rattle.rtcp_compound.specs.Compound.{Content}
use Rattle.psk_seal.specs.declared.sealer.Pair.{Pair}
use Rattle.rist_wire.specs.Writing.{is_spent}
use Rattle.rist_sender.specs.declared.answer.Answer.{Answer}
use Rattle.rist_sender.specs.declared.answer.Answer.TheVariants.{Took}
use Rattle.link_channels.specs.declared.channel.Channel.{Channel}
use Rattle.rist_sender.specs.Messages.{Message, Original, Retransmission, message_channel, message_datagram}
use Rattle.rist_sender.specs.Sender.{SenderState}
use Rattle.rist_sender.specs.History.{sendings_of, effective_time, again_count}
use Rattle.rist_sender.specs.Calls.{Work, Due, Rules, after_due, on_link, AnswersOn, SendsNext, after_copy, is_settled}
use Rattle.rist_sender.specs.Calls.{Spreads, WritesInTurn, TicksOn, TicksInTurn}
use Rattle.rist_sender.specs.Inside.Numbers.{number_again}

-- whether a part of a call came to a datagram without a pair; where one did, no pair is left
pub record IsShort (short : Bool) (to : Work) : Type 0 where
  pub pair : to.is_short ≡ short
  pub spent : short ≡ true → is_spent to.sealer ≡ true

-- what was done for a datagram that was due on a link, with this answer, and whether it had no pair
pub record PutsWith (tick link : ℕ) (message : Message) (answer : Answer) (short : Bool) (from to : Work) : Type 0 where
  pub is : to ≡ after_due tick (record { link = link; message = message }) answer from
  pub ends : IsShort short to

-- what was done for a datagram that was due on a link, whatever the link answered
pub record PutsOn (tick link : ℕ) (message : Message) (short : Bool) (from to : Work) : Type 0 where
  pub answer : Answer
  pub with_answer : PutsWith tick link message answer short from to

-- what was done for a retransmission, by what the sender says of it
abbrev pub PutsAgain : {E : Type 0} → ℕ → ℕ → Packet → Result Answer E → Work → Work → Type 0
PutsAgain tick link packet (Ok answer) from to = PutsWith tick link (Retransmission packet) answer false from to
PutsAgain tick link packet (Err spent) from to = PutsWith tick link (Retransmission packet) Took true from to

-- datagrams that are due are written in turn, up to one without a pair
pub record WritesDues (tick : ℕ) (dues : List Due) (short : Bool) (from to : Work) : Type 0 where
  pub writes : WritesInTurn tick dues from to
  pub ends : IsShort short to

-- the packet that a number asks for was sent again, with this answer, or there was no pair for it
pub record SendsAgain (size hold tick link : ℕ) (asked : AskedNumber) (answer : Answer) (short : Bool)
    (from to : Work) : Type 0 where
  pub packet : Packet
  pub found : packet_for (stored_packets size (sendings_of from.history)) asked.width asked.word ≡ Some packet
  pub passed : has_passed_since hold tick (last_sent_again (sendings_of from.history) packet.number) ≡ true
  pub puts : PutsWith tick link (Retransmission packet) answer short from to

-- nothing is sent again for a number
pub record LeavesNumber (size hold tick : ℕ) (asked : AskedNumber) (from to : Work) : Type 0 where
  pub same : to ≡ from
  pub none : number_again hold tick (sendings_of from.history)
      (packet_for (stored_packets size (sendings_of from.history)) asked.width asked.word) ≡ None

-- what is done for a number that a compound asks for
abbrev pub AnswersNumber : {E : Type 0} → ℕ → ℕ → ℕ → ℕ → AskedNumber → Result (Option Answer) E → Work → Work → Type 0
AnswersNumber size hold tick link asked (Ok None) from to = LeavesNumber size hold tick asked from to
AnswersNumber size hold tick link asked (Ok (Some answer)) from to =
    SendsAgain size hold tick link asked answer false from to
AnswersNumber size hold tick link asked (Err spent) from to = SendsAgain size hold tick link asked Took true from to

-- how many packets were sent again, where pairs lasted
abbrev pub CountsAgain : {E : Type 0} → Result ℕ E → Work → Work → Type 0
CountsAgain (Ok count) from to = again_count to.history ≡ again_count from.history + count
CountsAgain (Err spent) from to = Unit {0}

-- retransmissions are written in turn, and counted
pub record SendsAll {E : Type 0} (tick : ℕ) (dues : List Due) (result : Result ℕ E) (short : Bool)
    (from to : Work) : Type 0 where
  pub writes : WritesInTurn tick dues from to
  pub ends : IsShort short to
  pub counts : CountsAgain result from to

-- a compound is answered on its link
pub record AnswersAll {E : Type 0} (rules : Rules) (micros link : ℕ) (compound : List Content) (result : Result ℕ E)
    (short : Bool) (from to : Work) : Type 0 where
  pub answers : AnswersOn rules micros link compound from to
  pub ends : IsShort short to
  pub counts : CountsAgain result from to

-- the packets that numbers find among stored ones, each once and so many at most, but for those that were sent again
-- within the hold time
abbrev pub again_among : List Packet → ℕ → ℕ → ℕ → List Sending → List AskedNumber → List Packet
again_among stored hold tick most history asked =
    take most (filter (λ packet. has_passed_since hold tick (last_sent_again history packet.number))
    (each_once (filter_map (λ n. packet_for stored n.width n.word) asked)))

-- the numbers before these were answered: whatever the retransmissions for these leave, all of them leave
pub record AnswersBefore (size hold tick link count left : ℕ) (asked all : List AskedNumber)
    (from to : Work) : Type 0 where
  pub ends : IsShort false to
  pub time : effective_time to.history ≡ tick
  pub stored : stored_packets size (sendings_of to.history) ≡ stored_packets size (sendings_of from.history)
  pub counts : again_count to.history ≡ again_count from.history + count
  pub rest : (last : Work)
      → WritesInTurn tick (on_link link
      (map Retransmission (again_among (stored_packets size (sendings_of from.history)) hold tick left
      (sendings_of to.history) asked))) to last
      → WritesInTurn tick (on_link link
      (map Retransmission (again_among (stored_packets size (sendings_of from.history)) hold tick MAX_SENT_AGAIN
      (sendings_of from.history) all))) from last

-- ---- a payload's datagram

-- A payload's datagram was tried on these links: where one of them was enough, it stops there, whatever links would
-- follow; else it goes on with those that follow.
abbrev pub SpreadsOver : Bool → ℕ → Option Pair → Message → List ℕ → Bool → Work → Work → Type 0
SpreadsOver one tick pair message links true from to =
    (rest : List ℕ) → Spreads one tick pair message (links ++ rest) from to
SpreadsOver one tick pair message links false from to =
    (rest : List ℕ) (last : Work) → Spreads one tick pair message rest to last
    → Spreads one tick pair message (links ++ rest) from last

-- a payload's datagram was tried on one link, and whether that was enough
pub record CopiesOn (one : Bool) (tick : ℕ) (pair : Option Pair) (message : Message) (link : ℕ) (settled : Bool)
    (from to : Work) : Type 0 where
  pub answer : Answer
  pub is : to ≡ after_copy tick pair message link answer from
  pub settles : is_settled one link answer from ≡ settled
  pub short : to.is_short ≡ from.is_short

-- these octets on this channel are the datagram of a packet under a pair
pub record IsPacketIn (s : SenderState) (pair : Option Pair) (packet : Packet) (way : Channel)
    (octets : List ℕ) : Type 0 where
  pub channel : way ≡ message_channel s.session (Original packet)
  pub datagram : octets ≡ message_datagram s.flow s.session pair (Original packet)

-- a payload's datagram was tried on some links, and whether one of them was enough
pub record SpreadsPart (one : Bool) (tick : ℕ) (pair : Option Pair) (message : Message) (links : List ℕ)
    (settled : Bool) (from to : Work) : Type 0 where
  pub spreads : SpreadsOver one tick pair message links settled from to
  pub short : to.is_short ≡ from.is_short

-- a payload's datagram was tried on the links before these: whatever these leave, all of them leave
pub record SpreadsBefore (one : Bool) (tick : ℕ) (pair : Option Pair) (message : Message) (links all : List ℕ)
    (from to : Work) : Type 0 where
  pub rest : (others : List ℕ) (last : Work) → Spreads one tick pair message (links ++ others) to last
      → Spreads one tick pair message (all ++ others) from last
  pub short : to.is_short ≡ from.is_short

-- a payload's datagram was tried on all its links
pub record SpreadsAll (one : Bool) (tick : ℕ) (pair : Option Pair) (message : Message) (links : List ℕ)
    (from to : Work) : Type 0 where
  pub spreads : Spreads one tick pair message links from to
  pub short : to.is_short ≡ from.is_short

-- a payload was sent, unless it couldn't be
pub record SendsOne (rules : Rules) (payload : List ℕ) (short : Bool) (from to : Work) : Type 0 where
  pub sends : SendsNext rules payload from to
  pub short_is : to.is_short ≡ short

-- ---- ticks

-- a tick on one link, up to a datagram without a pair
pub record TicksLink (keepalives : Bool) (micros link : ℕ) (short : Bool) (from to : Work) : Type 0 where
  pub ticks : TicksOn keepalives micros link from to
  pub ends : IsShort short to

-- a tick on one link after another, up to a datagram without a pair
pub record TicksLinks (keepalives : Bool) (micros : ℕ) (links : List ℕ) (short : Bool) (from to : Work) : Type 0 where
  pub ticks : TicksInTurn keepalives micros links from to
  pub ends : IsShort short to

-- the links before one had their tick: whatever the tick on the others leaves, the whole tick leaves
pub record TicksBefore (keepalives : Bool) (micros link links : ℕ) (from to : Work) : Type 0 where
  pub ends : IsShort false to
  pub rest : (last : Work) → TicksInTurn keepalives micros (range_with_len link (links - link)) to last
      → TicksInTurn keepalives micros (range_with_len 0 links) from last
