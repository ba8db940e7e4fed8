-- Datagrams of the tunnel (this profile): the message of one, or the first test that fails.
use Rattle.std.specs.Prelude.{ℕ, ◌+◌, ◌-◌, ◌≤◌, Bool, ◌&&◌, not, List, ◌++◌, length, take, drop, if◌then◌else◌, ◌==◌}
use Rattle.std.specs.Prelude.{nat_lt, Option, Some, None, is_some, Result, Ok, Err}
use Rattle.std.specs.Int.{w16, from_be_bytes}
use Rattle.gre_tunnel.specs.declared.gre.Gre.{Gre}
use Rattle.gre_tunnel.specs.declared.gre.GreBad.{GreBad}
use Rattle.gre_tunnel.specs.Gre.{keepalive_protocol, full_protocol}
use Rattle.ipv4_udp.specs.declared.ip.IpBad.{IpBad}
use Rattle.ipv4_udp.specs.declared.ip.Sums.TheVariants.{Test}
use Rattle.ipv4_udp.specs.Ip.{Datagram}
use Rattle.ipv4_udp.specs.Reading.{reading_of as ip_reading_of}
use Rattle.rist_wire.specs.declared.session.Session.{Session}
use Rattle.rist_wire.specs.declared.bad.WireBad.{WireBad}
use Rattle.rist_wire.specs.declared.bad.WireBad.TheVariants.{Clear, Sealed, Stub, Port, Gre as NoGre, Ip as NoIp}
use Rattle.rist_wire.specs.declared.item.Kind.{Kind}
use Rattle.rist_wire.specs.declared.item.Kind.TheVariants.{Media as MediaKind, Control as ControlKind}
use Rattle.rist_wire.specs.declared.item.Kind.TheVariants.{Keepalive as KeepaliveKind}
use Rattle.rist_wire.specs.declared.item.Part.{Part}
use Rattle.rist_wire.specs.Cipher.{ciphered_by}
use Rattle.rist_wire.specs.Messages.{Message}

-- a key stands in the header of an enciphered datagram
abbrev pub is_sealed : Gre → Bool
is_sealed gre = is_some gre.key

-- datagrams of the session are enciphered
abbrev pub has_pass : Session → Bool
has_pass session = is_some session.pass

-- what follows the header, deciphered where it is enciphered
abbrev pub text_in : Session → Gre → List ℕ → List ℕ
text_in session gre octets = ciphered_by session.pass session.bits gre.key gre.sequence (drop gre.rest octets)

-- behind the source port, which isn't read, stands the destination: media's, or control's, the next one
abbrev pub destination_of : List ℕ → ℕ
destination_of text = from_be_bytes w16 (take 2 (drop 2 text))

-- what goes to a destination
abbrev pub kind_at : ℕ → ℕ → Result Kind WireBad
kind_at port to =
    if to == port then Ok MediaKind else (if to == port + 1 then Ok ControlKind else Err Port)

-- what a text says that it is, by its destination; the ports have four octets
abbrev pub datagram_kind : ℕ → List ℕ → Result Kind WireBad
datagram_kind port text = if nat_lt (length text) 4 then Err Stub else kind_at port (destination_of text)

-- the octets as a message of this kind
abbrev pub message_with : List ℕ → Result Kind WireBad → Result Message WireBad
message_with octets (Ok kind) = Ok (record { kind = kind; octets = octets })
message_with octets (Err bad) = Err bad

-- the message behind the ports
abbrev pub datagram_message : ℕ → List ℕ → Result Message WireBad
datagram_message port text = message_with (drop 4 text) (datagram_kind port text)

-- the message of a full datagram, whose destination stands in its UDP header
abbrev pub full_message : ℕ → Result Datagram IpBad → Result Message WireBad
full_message port (Err bad) = Err (NoIp bad)
full_message port (Ok datagram) = message_with datagram.payload (kind_at port datagram.to_port)

-- the message of a text: a keepalive has no ports, and a full datagram has its own
abbrev pub text_message : ℕ → ℕ → List ℕ → Result Message WireBad
text_message port protocol text =
    if protocol == keepalive_protocol then Ok (record { kind = KeepaliveKind; octets = text })
    else (if protocol == full_protocol then full_message port (ip_reading_of Test text)
    else datagram_message port text)

-- what may not stand in the session, by the header; a keepalive may be clear in a session with a passphrase
abbrev pub cipher_fault : Session → Gre → Option WireBad
cipher_fault session gre =
    if is_sealed gre && not (has_pass session) then Some Sealed
    else (if not (gre.protocol == keepalive_protocol) && (not (is_sealed gre) && has_pass session) then Some Clear
    else None)

-- the message, unless the header is refused
abbrev pub refused_or : Option WireBad → Result Message WireBad → Result Message WireBad
refused_or (Some bad) message = Err bad
refused_or None message = message

-- the tests of the header in their order, then those of what follows it
abbrev pub tunnel_message : Session → List ℕ → Result Gre GreBad → Result Message WireBad
tunnel_message session octets (Err bad) = Err (NoGre bad)
tunnel_message session octets (Ok gre) =
    refused_or (cipher_fault session gre) (text_message session.port gre.protocol (text_in session gre octets))

-- the datagram with what follows its header as plain text; one without a header that is read stays as it is
abbrev pub plain_datagram : Session → List ℕ → Result Gre GreBad → List ℕ
plain_datagram session octets (Err bad) = octets
plain_datagram session octets (Ok gre) = take gre.rest octets ++ text_in session gre octets

-- the part lies in the datagram
pub record LiesIn (part : Part) (octets : List ℕ) : Type 0 where
  pub order : part.from ≤ part.end
  pub within : part.end ≤ length octets

-- the message that lies in this part of the datagram
abbrev pub message_at : List ℕ → Result Part WireBad → Result Message WireBad
message_at octets (Ok part) =
    Ok (record { kind = part.kind; octets = take (part.end - part.from) (drop part.from octets) })
message_at octets (Err bad) = Err bad
