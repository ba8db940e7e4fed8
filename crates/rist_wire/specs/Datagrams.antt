-- The datagrams of messages, in the tunnel (this profile) or without it (VSF TR-06-1).
use Rattle.std.specs.Prelude.{◌≡◌, ℕ, ◌+◌, Bool, true, false, ◌&&◌, List, ◌++◌, ◌==◌, Option, Some, is_some}
use Rattle.std.specs.Int.{w16, to_be_bytes}
use Rattle.link_channels.specs.declared.channel.Channel.{Channel}
use Rattle.link_channels.specs.declared.channel.Channel.TheVariants.{Media as OnMedia, Control as OnControl}
use Rattle.link_channels.specs.declared.channel.Channel.TheVariants.{Tunnel as OnTunnel}
use Rattle.gre_tunnel.specs.declared.tunnel.Tunnel.{Tunnel}
use Rattle.gre_tunnel.specs.Gre.{Header, keepalive_protocol, datagram_protocol, full_protocol, spelling as gre_spelling}
use Rattle.gre_tunnel.specs.Writing.{header_with, ignored_with}
use Rattle.ipv4_udp.specs.declared.writing.IpHead.{IpHead}
use Rattle.ipv4_udp.specs.Ip.{spelling as ip_spelling}
use Rattle.ipv4_udp.specs.Writing.{datagram_with, written_fields}
use Rattle.psk_seal.specs.declared.sealer.Pair.{Pair}
use Rattle.link_channels.specs.declared.profile.Profile.{Profile}
use Rattle.link_channels.specs.declared.profile.Profile.TheVariants.{Simple, Main}
use Rattle.rist_wire.specs.declared.session.Session.{Session}
use Rattle.rist_wire.specs.declared.item.Kind.{Kind}
use Rattle.rist_wire.specs.declared.item.Kind.TheVariants.{Media as MediaKind, Control as ControlKind}
use Rattle.rist_wire.specs.declared.item.Kind.TheVariants.{Keepalive as KeepaliveKind}
use Rattle.rist_wire.specs.Cipher.{ciphered_by}
use Rattle.rist_wire.specs.Sealed.{IsSealed}
use Rattle.rist_wire.specs.Writing.{nonce_of, sequence_of}
use Rattle.rist_wire.specs.Messages.{item_by}
use Rattle.rist_wire.specs.Item.{item_of}

-- ---- the tunnel

-- the protocol of RTP and RTCP, by whether they are written as full datagrams
abbrev pub carried_protocol : Bool → ℕ
carried_protocol true = full_protocol
carried_protocol false = datagram_protocol

-- the protocol that the header names
abbrev pub protocol_for : Bool → Kind → ℕ
protocol_for full MediaKind = carried_protocol full
protocol_for full ControlKind = carried_protocol full
protocol_for full KeepaliveKind = keepalive_protocol

-- the header: a key and a sequence number where the datagram is enciphered, the key being the nonce
abbrev pub header_for : Bool → Option Pair → Kind → Header
header_for full pair kind = header_with (nonce_of pair) (sequence_of pair) (protocol_for full kind)

-- an ignored bit says that the key has 32 octets (this profile)
abbrev pub is_long : ℕ → Option Pair → Bool
is_long bits pair = is_some pair && (bits == 256)

-- its octets
abbrev pub header_octets : Tunnel → ℕ → Bool → Option Pair → Kind → List ℕ
header_octets tunnel bits full pair kind =
    gre_spelling (header_for full pair kind) (ignored_with tunnel (nonce_of pair) (is_long bits pair))

-- before RTP and RTCP stand a source port, written as the destination, and the destination
abbrev pub ports_octets : ℕ → List ℕ
ports_octets port = to_be_bytes w16 port ++ to_be_bytes w16 port

-- a full datagram goes from 10.0.0.1 to 10.0.0.2, and both its ports are the destination (this profile)
abbrev pub full_head : ℕ → IpHead
full_head port = record { from = 0x0A000001; to = 0x0A000002; from_port = port; to_port = port }

-- the full datagram with these data
unfoldable pub full_octets : ℕ → List ℕ → List ℕ
full_octets port octets =
    ip_spelling (datagram_with (full_head port) octets) (written_fields (datagram_with (full_head port) octets))

-- octets that go to a port, by whether they are written as a full datagram
abbrev pub carried : Bool → ℕ → List ℕ → List ℕ
carried true port octets = full_octets port octets
carried false port octets = ports_octets port ++ octets

-- what stands behind the header, as plain text
abbrev pub text_for : Bool → ℕ → Kind → List ℕ → List ℕ
text_for full port MediaKind octets = carried full port octets
text_for full port ControlKind octets = carried full (port + 1) octets
text_for full port KeepaliveKind octets = octets

-- a text as it stands behind its header
abbrev pub sealed_text : Session → Option Pair → List ℕ → List ℕ
sealed_text session pair text = ciphered_by session.pass session.bits (nonce_of pair) (sequence_of pair) text

-- the datagram of a message in the tunnel
abbrev pub tunnel_octets : Session → Option Pair → Kind → List ℕ → List ℕ
tunnel_octets session pair kind octets =
    header_octets session.tunnel session.bits session.full pair kind
    ++ sealed_text session pair (text_for session.full session.port kind octets)

-- ---- the whole

-- media and control each on a channel of its own in the Simple Profile, which sends no keepalives, and all in the tunnel
-- in the Main Profile
abbrev pub channel_on : Profile → Kind → Channel
channel_on Main kind = OnTunnel
channel_on Simple MediaKind = OnMedia
channel_on Simple ControlKind = OnControl
channel_on Simple KeepaliveKind = OnControl

-- on which channel a datagram goes
abbrev pub channel_of : Session → Kind → Channel
channel_of session kind = channel_on session.profile kind

-- a datagram of the Simple Profile is the message itself
abbrev pub datagram_on : Profile → Session → Option Pair → Kind → List ℕ → List ℕ
datagram_on Simple session pair kind octets = octets
datagram_on Main session pair kind octets = tunnel_octets session pair kind octets

-- the datagram of a message
abbrev pub datagram_of : Session → Option Pair → Kind → List ℕ → List ℕ
datagram_of session pair kind octets = datagram_on session.profile session pair kind octets

-- The datagram of a message on its channel, which is read back as that message. In a session with a passphrase it is
-- enciphered under the pair.
pub record IsDatagram (session : Session) (pair : Option Pair) (kind : Kind) (message : List ℕ) (way : Channel)
    (datagram : List ℕ) : Type 0 where
  pub channel : way ≡ channel_of session kind
  pub octets : datagram ≡ datagram_of session pair kind message
  pub item : item_of session way datagram ≡ item_by session.tunnel kind message
  pub sealed : (pass : List ℕ) → session.pass ≡ Some pass
      → IsSealed pass session.bits pair (protocol_for session.full kind)
      (text_for session.full session.port kind message) datagram
