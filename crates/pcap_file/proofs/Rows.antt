-- Worked rows of the definitions.
use Rattle.std.proofs.Common.{◌≡◌, ℕ, List, [], ◌∷◌, ◌++◌, Some, refl, arith}
use Rattle.std.proofs.lemmas.List.Elements.{All-cons, All-nil}
use Rattle.link_channels.specs.declared.channel.Channel.TheVariants.{Media, Control, Tunnel}
use Rattle.link_channels.specs.declared.profile.Profile.TheVariants.{Simple, Main}
use Rattle.ipv4_udp.specs.Reading.{reading_of, udp_reading}
use Rattle.pcap_file.specs.declared.format.ByteOrder.TheVariants.{Big, Little}
use Rattle.pcap_file.specs.declared.format.Fraction.TheVariants.{Micros, Nanos}
use Rattle.pcap_file.specs.declared.bad.PcapKind.TheVariants.{Magic, Truncated, Version, LinkType, Long}
use Rattle.pcap_file.specs.Pcap.{micros_at, Fits, Captured, HasFrames}
use Rattle.pcap_file.specs.Tests.{fault_of_header, fault_at}
use Rattle.pcap_file.specs.Converted.{datagram_of, converted}

-- the RTP packet that it carries
rtp : List ℕ
rtp = 0x80 ∷ 0x21 ∷ 0 ∷ 0 ∷ 0 ∷ 0 ∷ 0 ∷ 0 ∷ 0x10 ∷ 0x20 ∷ 0x30 ∷ 0x40 ∷ 0x41 ∷ []

-- 41 octets from 10.0.0.1 to 10.0.0.2, both ports 1,968
packet : List ℕ
packet = 0x45 ∷ 0 ∷ 0 ∷ 0x29 ∷ 0 ∷ 0 ∷ 0x40 ∷ 0 ∷ 0x40 ∷ 0x11 ∷ 0x26 ∷ 0xC2 ∷ 0x0A ∷ 0 ∷ 0 ∷ 1 ∷ 0x0A ∷ 0 ∷ 0 ∷ 2
    ∷ 0x07 ∷ 0xB0 ∷ 0x07 ∷ 0xB0 ∷ 0 ∷ 0x15 ∷ 0xDA ∷ 0xDF ∷ rtp

-- a little-endian header of raw IP, with microseconds
header : List ℕ
header = 0xD4 ∷ 0xC3 ∷ 0xB2 ∷ 0xA1 ∷ 2 ∷ 0 ∷ 4 ∷ 0 ∷ 0 ∷ 0 ∷ 0 ∷ 0 ∷ 0 ∷ 0 ∷ 0 ∷ 0 ∷ 0 ∷ 0 ∷ 4 ∷ 0 ∷ 0x65 ∷ 0 ∷ 0 ∷ 0 ∷ []

-- and a record of the packet at 0
record-octets : List ℕ
record-octets = 0 ∷ 0 ∷ 0 ∷ 0 ∷ 0 ∷ 0 ∷ 0 ∷ 0 ∷ 0x29 ∷ 0 ∷ 0 ∷ 0 ∷ 0x29 ∷ 0 ∷ 0 ∷ 0 ∷ packet

frame : Captured
frame = record { at_us = 0; link_type = 101; octets = packet }

-- the file has one frame
worked : HasFrames (frame ∷ []) (header ++ record-octets)
unfolding header record-octets packet rtp frame
worked = record {
  format = record { order = Little; fraction = Micros; link_type = 101 };
  packets = record { seconds = 0; fraction = 0; first_len = 41; octets = packet } ∷ [];
  file = record {
    header = header;
    is_header = record {
      unread = 0 ∷ 0 ∷ 0 ∷ 0 ∷ 0 ∷ 0 ∷ 0 ∷ 0 ∷ 0 ∷ 0 ∷ 4 ∷ 0 ∷ [];
      unread_len = refl;
      link_word = 101;
      link_fits = omega arith;
      link_type = refl;
      known = refl;
      whole = refl;
    };
    each = All-cons Fits _ [] (record { seconds = omega arith; fraction = omega arith; first_len = omega arith; octets = omega arith }) (All-nil Fits);
    whole = refl;
  };
  same = refl;
}

-- its datagram goes to port 1,968: media there, control at the port before, the tunnel in the other profile
media : datagram_of Simple 1968 101 packet ≡ Some (Media, rtp)
unfolding packet rtp reading_of udp_reading
media = refl

control : datagram_of Simple 1967 101 packet ≡ Some (Control, rtp)
unfolding packet rtp reading_of udp_reading
control = refl

-- frames that go elsewhere leave no record
tunnel : converted (frame ∷ record { at_us = 7; link_type = 101; octets = [] } ∷ []) Main 1968
    ≡ record { link = 0; channel = Tunnel; us = 0; octets = rtp } ∷ []
unfolding frame packet rtp reading_of udp_reading
tunnel = refl

-- nanoseconds are rounded down
nanos : micros_at Nanos 1 9989999 ≡ 1009989
nanos = refl

-- no magic number, no whole header, another version, another link type
magic : fault_of_header (0xA1 ∷ 0xB2 ∷ 0xC3 ∷ 0xD5 ∷ []) ≡ Some Magic
magic = refl

short : fault_of_header (0xA1 ∷ 0xB2 ∷ 0xC3 ∷ 0xD4 ∷ []) ≡ Some Truncated
short = refl

version : fault_of_header (0xA1 ∷ 0xB2 ∷ 0xC3 ∷ 0xD4 ∷ 0 ∷ 2 ∷ 0 ∷ 3 ∷ 0 ∷ 0 ∷ 0 ∷ 0 ∷ 0 ∷ 0 ∷ 0 ∷ 0 ∷ 0 ∷ 0 ∷ 0 ∷ 0 ∷ 0 ∷ 0 ∷ 0 ∷ 1 ∷ []) ≡ Some Version
version = refl

link : fault_of_header (0xA1 ∷ 0xB2 ∷ 0xC3 ∷ 0xD4 ∷ 0 ∷ 2 ∷ 0 ∷ 4 ∷ 0 ∷ 0 ∷ 0 ∷ 0 ∷ 0 ∷ 0 ∷ 0 ∷ 0 ∷ 0 ∷ 0 ∷ 0 ∷ 0 ∷ 0 ∷ 0 ∷ 0 ∷ 113 ∷ []) ≡ Some LinkType
link = refl

-- a record of more than 262,144 octets, and one whose octets end early
long : fault_at Big 24 (0 ∷ 0 ∷ 0 ∷ 0 ∷ 0 ∷ 0 ∷ 0 ∷ 0 ∷ 0 ∷ 4 ∷ 0 ∷ 1 ∷ 0 ∷ 4 ∷ 0 ∷ 1 ∷ []) ≡ Some Long
long = refl

cut : fault_at Big 24 (0 ∷ 0 ∷ 0 ∷ 0 ∷ 0 ∷ 0 ∷ 0 ∷ 0 ∷ 0 ∷ 0 ∷ 0 ∷ 2 ∷ 0 ∷ 0 ∷ 0 ∷ 2 ∷ 9 ∷ []) ≡ Some Truncated
cut = refl
