-- The UDP datagrams of a capture of the network, as the records of a capture file. An Ethernet header is fourteen
-- octets and ends in the type of what follows (IEEE 802.3, clause 3.2); a VLAN tag is four octets more (IEEE 802.1Q,
-- clause 9.6).
use Rattle.std.specs.Prelude.{ℕ, ◌+◌, Bool, ◌&&◌, not, ◌==◌, List, [], ◌∷◌, length, take, drop, flat_map, if◌then◌else◌}
use Rattle.link_channels.specs.declared.bounds.TheConstants.{MAX_DATAGRAM}
use Rattle.std.specs.Prelude.{nat_lt, None, Some, Result, Ok, Err}
use Rattle.std.specs.declared.option.Option.{Option}
use Rattle.std.specs.Borrow.{Bor}
use Rattle.std.specs.Int.{w16, from_be_bytes}
use Rattle.link_channels.specs.declared.channel.Channel.{Channel}
use Rattle.link_channels.specs.declared.channel.Channel.TheVariants.{Media, Control, Tunnel}
use Rattle.link_channels.specs.declared.profile.Profile.{Profile}
use Rattle.link_channels.specs.declared.profile.Profile.TheVariants.{Simple, Main}
use Rattle.ipv4_udp.specs.declared.ip.IpBad.{IpBad}
use Rattle.ipv4_udp.specs.declared.ip.Sums.TheVariants.{Skip}
use Rattle.ipv4_udp.specs.Ip.{Datagram}
use Rattle.ipv4_udp.specs.Reading.{reading_of}
use Rattle.capture_file.specs.Capture.{Record}
use Rattle.pcap_file.specs.Pcap.{ethernet, raw_ip, Captured}

-- the EtherType at this place
abbrev pub ether_type_at : ℕ → List ℕ → ℕ
ether_type_at at octets = from_be_bytes w16 (take 2 (drop at octets))

-- the EtherTypes of IPv4 and of a VLAN tag
abbrev pub ipv4_type : ℕ
ipv4_type = 0x0800

-- and of a tag
abbrev pub vlan_type : ℕ
vlan_type = 0x8100

-- a VLAN tag follows, and behind it an IPv4 datagram
abbrev pub has_tagged_ip : List ℕ → Bool
has_tagged_ip octets =
    (ether_type_at 12 octets == vlan_type)
    && (not (nat_lt (length octets) 18) && (ether_type_at 16 octets == ipv4_type))

-- the IPv4 datagram behind an Ethernet header; one VLAN tag is stepped over
abbrev pub ethernet_ip : List ℕ → Option (List ℕ)
ethernet_ip octets =
    if nat_lt (length octets) 14 then None
    else (if ether_type_at 12 octets == ipv4_type then Some (drop 14 octets)
    else (if has_tagged_ip octets then Some (drop 18 octets)
    else None))

-- the IPv4 datagram of a frame
abbrev pub ip_in : ℕ → List ℕ → Option (List ℕ)
ip_in link_type octets =
    if link_type == ethernet then ethernet_ip octets else (if link_type == raw_ip then Some octets else None)

-- the channel whose datagrams go to this destination: in the Main Profile the tunnel, in the Simple Profile media at
-- the port and control at the next one
abbrev pub channel_at : Profile → ℕ → ℕ → Option Channel
channel_at Main port to = if to == port then Some Tunnel else None
channel_at Simple port to = if to == port then Some Media else (if to == port + 1 then Some Control else None)

-- data with their channel, where they have one
abbrev pub on_channel : Option Channel → List ℕ → Option (Channel × List ℕ)
on_channel None payload = None
on_channel (Some channel) payload = Some (channel, payload)

-- what a datagram that was read carries: at most 2,048 octets (this profile)
abbrev pub carried_by : Profile → ℕ → Result Datagram IpBad → Option (Channel × List ℕ)
carried_by profile port (Err bad) = None
carried_by profile port (Ok datagram) =
    if nat_lt MAX_DATAGRAM (length datagram.payload) then None
    else on_channel (channel_at profile port datagram.to_port) datagram.payload

-- the same of an IPv4 datagram, whose checksums don't count
abbrev pub carried_in : Profile → ℕ → Option (List ℕ) → Option (Channel × List ℕ)
carried_in profile port None = None
carried_in profile port (Some octets) = carried_by profile port (reading_of Skip octets)

-- the datagram that a frame carries to this port, with its channel
abbrev pub datagram_of : Profile → ℕ → ℕ → List ℕ → Option (Channel × List ℕ)
datagram_of profile port link_type octets = carried_in profile port (ip_in link_type octets)

-- the record of a datagram that was captured at this time, on link 0; none where there is no datagram
abbrev pub records_at : ℕ → Option (Channel × List ℕ) → List Record
records_at at_us None = []
records_at at_us (Some datagram) = record { link = 0; channel = datagram.0; us = at_us; octets = datagram.1 } ∷ []

-- the records of frames, in order: frames that carry no datagram to this port are stepped over
abbrev pub converted : List Captured → Profile → ℕ → List Record
converted frames profile port =
    flat_map (λ frame. records_at frame.at_us (datagram_of profile port frame.link_type frame.octets)) frames

-- a slice without where it lies in memory
abbrev pub slice_shown : Option (Bor (List ℕ)) → Option (List ℕ)
slice_shown None = None
slice_shown (Some slice) = Some slice.now

-- a datagram without where it lies in memory
abbrev pub datagram_shown : Option (Channel × Bor (List ℕ)) → Option (Channel × List ℕ)
datagram_shown None = None
datagram_shown (Some datagram) = Some (datagram.0, datagram.1.now)
