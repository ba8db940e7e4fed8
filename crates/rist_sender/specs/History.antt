-- What a sender did, event by event. A history is a list of events, the newest first: in `event ∷ before`, `before` is
-- all that came before.
use Rattle.std.specs.Prelude.{ℕ, ◌+◌, max, List, [], ◌∷◌, ◌++◌, length, Bool, true, false, ◌&&◌, ◌||◌, ◌==◌}
use Rattle.std.specs.Prelude.{if◌then◌else◌, Option, None, Some}
use Rattle.receiver_rules.specs.Steps.{tick_of}
use Rattle.sender_rules.specs.Sendings.{Packet, Sending, First, Again, sent_packets}
use Rattle.psk_seal.specs.declared.sealer.Pair.{Pair}
use Rattle.rist_wire.specs.declared.session.Session.{Session}
use Rattle.rist_sender.specs.declared.answer.Answer.{Answer}
use Rattle.rist_sender.specs.Links.{Tried, is_failed}
use Rattle.rist_sender.specs.Messages.{Message, Original, Retransmission, Report, RttAnswer, Alive, message_channel}
use Rattle.rist_sender.specs.Messages.{message_datagram}

-- a datagram that was written: its link, what it says, the pair under which it is enciphered if it is, the effective
-- time of its call in ticks, and what became of it
pub record Write : Type 0 where
  pub link : ℕ
  pub message : Message
  pub pair : Option Pair
  pub tick : ℕ
  pub answer : Answer

-- the sender was called, at a moment in microseconds; a payload was sent as this packet; a datagram was written;
-- another flow began, with this SSRC and this first number
pub data Event : Type 0 where
  Called : ℕ → Event
  Sent : Packet → Event
  Wrote : Write → Event
  Renewed : ℕ → ℕ → Event

-- the effective time is the greatest tick so far: a clock may go back, and this time does not
abbrev pub effective_time : List Event → ℕ
effective_time [] = 0
effective_time (Called micros ∷ before) = max (tick_of micros) (effective_time before)
effective_time (Sent packet ∷ before) = effective_time before
effective_time (Wrote write ∷ before) = effective_time before
effective_time (Renewed flow first ∷ before) = effective_time before

-- ---- what was sent

-- a packet was sent again where its retransmission was written, whatever became of it
abbrev pub sending_as : ℕ → Message → List Sending → List Sending
sending_as tick (Original packet) before = before
sending_as tick (Retransmission packet) before = Again packet.number tick ∷ before
sending_as tick (Report status) before = before
sending_as tick (RttAnswer status echo) before = before
sending_as tick Alive before = before

-- The sendings of media of the flow that is sent now, as the rules of storing and sending again see them: those of the
-- flows before it count no more, so nothing of them is stored or sent again.
abbrev pub sendings_of : List Event → List Sending
sendings_of [] = []
sendings_of (Called micros ∷ before) = sendings_of before
sendings_of (Sent packet ∷ before) = First packet ∷ sendings_of before
sendings_of (Wrote write ∷ before) = sending_as write.tick write.message (sendings_of before)
sendings_of (Renewed flow first ∷ before) = []

-- how many payloads of this flow were sent, each once
abbrev pub packet_count : List Event → ℕ
packet_count history = length (sent_packets (sendings_of history))

-- how many octets of payload of this flow were sent, each once
abbrev pub octet_count : List Event → ℕ
octet_count [] = 0
octet_count (Called micros ∷ before) = octet_count before
octet_count (Sent packet ∷ before) = octet_count before + length packet.payload
octet_count (Wrote write ∷ before) = octet_count before
octet_count (Renewed flow first ∷ before) = 0

-- a message counts as one where it is a retransmission whose write didn't fail, else as none
abbrev pub counted_again : Message → Answer → ℕ
counted_again (Original packet) answer = 0
counted_again (Retransmission packet) answer = if is_failed answer then 0 else 1
counted_again (Report status) answer = 0
counted_again (RttAnswer status echo) answer = 0
counted_again Alive answer = 0

-- how many packets of this flow were sent again
abbrev pub again_count : List Event → ℕ
again_count [] = 0
again_count (Called micros ∷ before) = again_count before
again_count (Sent packet ∷ before) = again_count before
again_count (Wrote write ∷ before) = again_count before + counted_again write.message write.answer
again_count (Renewed flow first ∷ before) = 0

-- ---- what became of the links

-- a link is down for good once a write on it failed
abbrev pub is_down : List Event → ℕ → Bool
is_down [] link = false
is_down (Called micros ∷ before) link = is_down before link
is_down (Sent packet ∷ before) link = is_down before link
is_down (Wrote write ∷ before) link = (write.link == link && is_failed write.answer) || is_down before link
is_down (Renewed flow first ∷ before) link = is_down before link

-- a message is a report
abbrev pub is_report : Message → Bool
is_report (Original packet) = false
is_report (Retransmission packet) = false
is_report (Report status) = true
is_report (RttAnswer status echo) = false
is_report Alive = false

-- a message is a keepalive
abbrev pub is_alive : Message → Bool
is_alive (Original packet) = false
is_alive (Retransmission packet) = false
is_alive (Report status) = false
is_alive (RttAnswer status echo) = false
is_alive Alive = true

-- the effective time at which a message of some form was last written on a link
abbrev pub last_time : (Message → Bool) → List Event → ℕ → Option ℕ
last_time is_meant [] link = None
last_time is_meant (Called micros ∷ before) link = last_time is_meant before link
last_time is_meant (Sent packet ∷ before) link = last_time is_meant before link
last_time is_meant (Wrote write ∷ before) link =
    if write.link == link && is_meant write.message then Some write.tick else last_time is_meant before link
last_time is_meant (Renewed flow first ∷ before) link = last_time is_meant before link

-- ---- what each link was given

-- a datagram of a flow in a session, as its link saw it
unfoldable pub tried_as : ℕ → Session → Write → Tried
tried_as flow session write = record {
  channel = message_channel session write.message;
  octets = message_datagram flow session write.pair write.message;
  answer = write.answer;
}

-- the datagrams that were written on a link, the oldest first
abbrev pub tried_on : (Write → Tried) → ℕ → List Event → List Tried
tried_on seen link [] = []
tried_on seen link (Called micros ∷ before) = tried_on seen link before
tried_on seen link (Sent packet ∷ before) = tried_on seen link before
tried_on seen link (Wrote write ∷ before) =
    tried_on seen link before ++ (if write.link == link then seen write ∷ [] else [])
tried_on seen link (Renewed flow first ∷ before) = tried_on seen link before
