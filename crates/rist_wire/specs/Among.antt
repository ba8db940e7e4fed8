-- Datagrams of several sessions in one tunnel, which differ in their ports alone (this profile).
use Rattle.std.specs.Prelude.{◌≡◌, ℕ, ◌-◌, ◌%◌, ◌<◌, ◌≤◌, ◌==◌, if◌then◌else◌, nat_lt, List, length, slice_index}
use Rattle.std.specs.Prelude.{Option, None, Some, unwrap_or, Result, Ok, Err}
use Rattle.std.specs.List.{position}
use Rattle.link_channels.specs.declared.channel.Channel.{Channel}
use Rattle.link_channels.specs.declared.channel.Channel.TheVariants.{Media as OnMedia, Control as OnControl}
use Rattle.link_channels.specs.declared.channel.Channel.TheVariants.{Tunnel as OnTunnel}
use Rattle.link_channels.specs.declared.profile.Profile.{Profile}
use Rattle.link_channels.specs.declared.profile.Profile.TheVariants.{Simple, Main}
use Rattle.gre_tunnel.specs.declared.gre.Gre.{Gre}
use Rattle.gre_tunnel.specs.declared.gre.GreBad.{GreBad}
use Rattle.gre_tunnel.specs.Gre.{keepalive_protocol, full_protocol}
use Rattle.gre_tunnel.specs.Reading.{reading_of as gre_reading_of}
use Rattle.keepalive_msg.specs.declared.keepalive.Keepalive.{Keepalive}
use Rattle.ipv4_udp.specs.declared.ip.IpBad.{IpBad}
use Rattle.ipv4_udp.specs.declared.ip.Sums.TheVariants.{Test}
use Rattle.ipv4_udp.specs.Ip.{Datagram}
use Rattle.ipv4_udp.specs.Reading.{reading_of as ip_reading_of}
use Rattle.rist_wire.specs.declared.session.Session.{Session}
use Rattle.rist_wire.specs.declared.bad.WireBad.{WireBad}
use Rattle.rist_wire.specs.declared.bad.WireBad.TheVariants.{Port}
use Rattle.rist_wire.specs.declared.item.Item.{Item}
use Rattle.rist_wire.specs.declared.item.Item.TheVariants.{Keepalive as KeepaliveItem}
use Rattle.rist_wire.specs.declared.item.Part.{Part}
use Rattle.rist_wire.specs.Messages.{Message}
use Rattle.rist_wire.specs.Tunnel.{destination_of, message_at, text_in}
use Rattle.rist_wire.specs.Item.{item_of, message_of}

-- ports of sessions in one tunnel: one to eight, each even and with a next one, and no two the same
pub record ArePorts (ports : List ℕ) : Type 0 where
  pub some : 1 ≤ length ports
  pub few : length ports ≤ 8
  pub even : (k : ℕ) → k < length ports → slice_index ports k % 2 ≡ 0
  pub high : (k : ℕ) → k < length ports → slice_index ports k ≤ 65534
  pub different : (j k : ℕ) → j < length ports → k < length ports → slice_index ports j ≡ slice_index ports k → j ≡ k

-- the session at this port
abbrev pub with_port : ℕ → Session → Session
with_port port session = record session { port = port }

-- the session at a place among ports
abbrev pub session_at : List ℕ → ℕ → Session → Session
session_at ports place session = with_port (slice_index ports place) session

-- ---- the place of a datagram

-- the place of the port that a destination is of: it is that port, media's, or the next one, control's
abbrev pub place_in : List ℕ → ℕ → Option ℕ
place_in ports to = position (λ port. port == to - to % 2) ports

-- the same, and the first place where there is no destination, or it is of none of the ports
abbrev pub place_or_first : List ℕ → Option ℕ → ℕ
place_or_first ports None = 0
place_or_first ports (Some to) = unwrap_or (place_in ports to) 0

-- the destination of a full datagram
abbrev pub full_destination : Result Datagram IpBad → Option ℕ
full_destination (Err bad) = None
full_destination (Ok datagram) = Some datagram.to_port

-- that of a text; a keepalive has none
abbrev pub destination_in : ℕ → List ℕ → Option ℕ
destination_in protocol text =
    if protocol == keepalive_protocol then None
    else (if protocol == full_protocol then full_destination (ip_reading_of Test text)
    else (if nat_lt (length text) 4 then None else Some (destination_of text)))

-- the place of a datagram of the tunnel, by its header
abbrev pub tunnel_place : List ℕ → Session → List ℕ → Result Gre GreBad → ℕ
tunnel_place ports session octets (Err bad) = 0
tunnel_place ports session octets (Ok gre) =
    place_or_first ports (destination_in gre.protocol (text_in session gre octets))

-- outside the tunnel no port is read
abbrev pub place_on : Profile → Channel → List ℕ → Session → List ℕ → ℕ
place_on Simple channel ports session octets = 0
place_on Main OnMedia ports session octets = 0
place_on Main OnControl ports session octets = 0
place_on Main OnTunnel ports session octets = tunnel_place ports session octets (gre_reading_of octets)

-- the place among ports of a datagram
unfoldable pub place_among : List ℕ → Session → Channel → List ℕ → ℕ
place_among ports session channel octets = place_on session.profile channel ports session octets

-- ---- what it holds

-- what is found, and at which place
abbrev pub placed : {X : Type 0} → ℕ → Result X WireBad → Result (ℕ × X) WireBad
placed place (Ok x) = Ok (place, x)
placed place (Err bad) = Err bad

-- the place of a datagram with its message, or the first test that fails, by the session at that place
unfoldable pub message_among : List ℕ → Session → Channel → List ℕ → Result (ℕ × Message) WireBad
message_among ports session channel octets =
    let place = place_among ports session channel octets in
    placed place (message_of (session_at ports place session) channel octets)

-- the message that lies in this part of the datagram, with its place
abbrev pub placed_message : List ℕ → Result (ℕ × Part) WireBad → Result (ℕ × Message) WireBad
placed_message octets (Ok found) = placed found.0 (message_at octets (Ok found.1))
placed_message octets (Err bad) = Err bad

-- the place of a datagram with its item, or the first test that fails, by the session at that place
unfoldable pub item_among : List ℕ → Session → Channel → List ℕ → Result (ℕ × Item) WireBad
item_among ports session channel octets =
    let place = place_among ports session channel octets in
    placed place (item_of (session_at ports place session) channel octets)

-- ---- the other sessions

-- what the session at another place makes of a datagram whose item was found: it refuses the port, or the item is a
-- keepalive, which is at the first place, and which it takes too
pub data IsForAnother (place : ℕ) (item : Item) (other : Result Item WireBad) : Type 0 where
  RefusesPort : other ≡ Err Port → IsForAnother place item other
  TakesKeepalive : (keepalive : Keepalive) → item ≡ KeepaliveItem keepalive → place ≡ 0 → other ≡ Ok item
      → IsForAnother place item other
