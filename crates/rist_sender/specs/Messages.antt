-- What a sender's datagrams say (RFC 3550, sections 5.1 and 6.4.1; VSF TR-06-1 for retransmissions; the answer to an
-- RTT request and the keepalive are this profile's).
use Rattle.std.specs.Prelude.{ℕ, ◌*◌, ◌/◌, ◌%◌, ◌^◌, Bool, true, false, List, [], ◌∷◌, ◌++◌, Option}
use Rattle.std.specs.Int.{w32, to_be_bytes}
use Rattle.link_channels.specs.declared.channel.Channel.{Channel}
use Rattle.seq_unwrap.specs.declared.width.Width.{Width}
use Rattle.receiver_rules.specs.Steps.{tick_of}
use Rattle.sender_rules.specs.Sendings.{Packet}
use Rattle.rtcp_compound.specs.Compound.{Content, sender_report, description}
use Rattle.rtcp_compound.specs.Writing.{name_item, sr_octets, sdes_octets}
use Rattle.rist_rtt.specs.Echo.{EchoOf, request, response, request_octets, response_octets}
use Rattle.keepalive_msg.specs.Keepalive.{spelling as keepalive_spelling}
use Rattle.keepalive_msg.specs.Writing.{message_of as keepalive_of}
use Rattle.psk_seal.specs.declared.sealer.Pair.{Pair}
use Rattle.rist_wire.specs.declared.session.Session.{Session}
use Rattle.rist_wire.specs.declared.item.Kind.{Kind}
use Rattle.rist_wire.specs.declared.item.Kind.TheVariants as kinds
use Rattle.rist_wire.specs.Writing.{MediaOut, media_out}
use Rattle.rist_wire.specs.Packets.{media_octets}
use Rattle.rist_wire.specs.Datagrams.{channel_of, datagram_of}

-- what a sender's report says: the moment of its call in microseconds, and how many packets and octets of payload were
-- sent so far, retransmissions left out
pub record Status : Type 0 where
  pub micros : ℕ
  pub packets : ℕ
  pub octets : ℕ

-- a datagram says a media packet, as an original or as a retransmission; a report; the answer to an RTT request, behind
-- a report; or that the sender is there
pub data Message : Type 0 where
  Original : Packet → Message
  Retransmission : Packet → Message
  Report : Status → Message
  RttAnswer : Status → EchoOf → Message
  Alive : Message

-- ---- control packets

-- the whole seconds of a moment, in 32 bits
abbrev pub seconds_of : ℕ → ℕ
seconds_of micros = micros / 1000000 % 2 ^ 32

-- what is left of a second, in units of 2^-32 s
abbrev pub fraction_of : ℕ → ℕ
fraction_of micros = micros % 1000000 * 2 ^ 32 / 1000000

-- the moment in the ticks of RTP timestamps, in 32 bits
abbrev pub rtp_time_of : ℕ → ℕ
rtp_time_of micros = tick_of micros % 2 ^ 32

-- each compound begins with a report without blocks and a source description with CNAME `rist`, of the flow
abbrev pub report_packets : ℕ → Status → List Content
report_packets flow status =
    sender_report flow (seconds_of status.micros) (fraction_of status.micros) (rtp_time_of status.micros)
    (status.packets % 2 ^ 32) (status.octets % 2 ^ 32) []
    ∷ description 1 (to_be_bytes w32 flow ++ name_item) ∷ []

-- the octets that each compound begins with
abbrev pub report_octets : ℕ → Status → List ℕ
report_octets flow status =
    sr_octets flow (seconds_of status.micros) (fraction_of status.micros) (rtp_time_of status.micros)
    (status.packets % 2 ^ 32) (status.octets % 2 ^ 32)
    ++ sdes_octets flow

-- a report that asks for the round-trip time has an RTT request behind it: of the flow, its stamp the moment of the
-- call
abbrev pub told_packets : Bool → ℕ → Status → List Content
told_packets false flow status = report_packets flow status
told_packets true flow status = report_packets flow status ++ request flow status.micros ∷ []

-- the octets of a report, and of the RTT request behind it where it asks
abbrev pub told_octets : Bool → ℕ → Status → List ℕ
told_octets false flow status = report_octets flow status
told_octets true flow status = report_octets flow status ++ request_octets flow status.micros

-- an RTT request is answered without delay, behind a report
abbrev pub answer_packets : ℕ → Status → EchoOf → List Content
answer_packets flow status echo = report_packets flow status ++ response echo 0 ∷ []

-- the octets of the answer to an RTT request
abbrev pub answer_octets : ℕ → Status → EchoOf → List ℕ
answer_octets flow status echo = report_octets flow status ++ response_octets echo 0

-- ---- media

-- the media of a packet, of the flow, sent again or not
abbrev pub media_of : ℕ → Bool → Packet → MediaOut
media_of flow again packet = media_out flow again packet.number packet.timestamp packet.strip packet.payload

-- ---- datagrams

-- what kind of datagram a message goes in
abbrev pub kind_of : Message → Kind
kind_of (Original packet) = kinds.Media
kind_of (Retransmission packet) = kinds.Media
kind_of (Report status) = kinds.Control
kind_of (RttAnswer status echo) = kinds.Control
kind_of Alive = kinds.Keepalive

-- a message's octets, without the headers of the tunnel, by how many bits numbers have and whether reports ask
abbrev pub message_octets : ℕ → Width → Bool → Message → List ℕ
message_octets flow width asks (Original packet) = media_octets width (media_of flow false packet)
message_octets flow width asks (Retransmission packet) = media_octets width (media_of flow true packet)
message_octets flow width asks (Report status) = told_octets asks flow status
message_octets flow width asks (RttAnswer status echo) = answer_octets flow status echo
message_octets flow width asks Alive = keepalive_spelling (keepalive_of flow)

-- the channel of a message's datagram in a session
abbrev pub message_channel : Session → Message → Channel
message_channel session message = channel_of session (kind_of message)

-- a message's datagram in a session, under a pair where it is enciphered
abbrev pub message_datagram : ℕ → Session → Option Pair → Message → List ℕ
message_datagram flow session pair message =
    datagram_of session pair (kind_of message) (message_octets flow session.width session.echo message)
