-- Worked rows of the readings.
use Rattle.std.proofs.Common.{◌≡◌, ℕ, List, [], ◌∷◌, ◌++◌, Ok, Err, refl}
use Rattle.std.specs.Int.{w16, to_be_bytes}
use Rattle.ipv4_udp.specs.declared.ip.IpBad.TheVariants.{HeaderSum, Fragment, UdpSum}
use Rattle.ipv4_udp.specs.declared.ip.Sums.TheVariants.{Test, Skip}
use Rattle.ipv4_udp.specs.Sum.{words_of, ones_sum}
use Rattle.ipv4_udp.specs.Ip.{Datagram, pseudo_header, header_octets, udp_octets}
use Rattle.ipv4_udp.specs.Reading.{reading_of, udp_reading}
use Rattle.ipv4_udp.specs.Writing.{header_sum_of, udp_sum_of}

-- the RTP packet that it carries
packet : List ℕ
packet = 0x80 ∷ 0x21 ∷ 0 ∷ 0 ∷ 0 ∷ 0 ∷ 0 ∷ 0 ∷ 0x10 ∷ 0x20 ∷ 0x30 ∷ 0x40 ∷ 0x41 ∷ []

-- 41 octets from 10.0.0.1 to 10.0.0.2, both ports 1,968, with these flags and checksums
worked : ℕ → ℕ → ℕ → List ℕ
worked flags header_sum udp_sum =
    (0x45 ∷ 0 ∷ 0 ∷ 0x29 ∷ 0 ∷ 0 ∷ flags ∷ 0 ∷ 0x40 ∷ 0x11 ∷ []) ++ (to_be_bytes w16 header_sum
    ++ ((0x0A ∷ 0 ∷ 0 ∷ 1 ∷ 0x0A ∷ 0 ∷ 0 ∷ 2 ∷ 0x07 ∷ 0xB0 ∷ 0x07 ∷ 0xB0 ∷ 0 ∷ 0x15 ∷ []) ++ (to_be_bytes w16 udp_sum ++ packet)))

value : Datagram
value = record { from = 0x0A000001; to = 0x0A000002; from_port = 1968; to_port = 1968; payload = packet }

-- both checksums hold
taken : reading_of Test (worked 0x40 0x26C2 0xDADF) ≡ Ok value
unfolding worked packet value reading_of udp_reading words_of ones_sum pseudo_header
taken = refl

-- another checksum of the header
header : reading_of Test (worked 0x40 0x26C3 0xDADF) ≡ Err HeaderSum
unfolding worked packet value reading_of udp_reading words_of ones_sum pseudo_header
header = refl

-- no checksum of UDP was made
unsummed : reading_of Test (worked 0x40 0x26C2 0) ≡ Ok value
unfolding worked packet value reading_of udp_reading words_of ones_sum pseudo_header
unsummed = refl

-- another checksum of UDP
udp : reading_of Test (worked 0x40 0x26C2 0xDADE) ≡ Err UdpSum
unfolding worked packet value reading_of udp_reading words_of ones_sum pseudo_header
udp = refl

-- more fragments follow, and the header's checksum holds
fragment : reading_of Test (worked 0x60 0x06C2 0xDADF) ≡ Err Fragment
unfolding worked packet value reading_of udp_reading words_of ones_sum pseudo_header
fragment = refl

-- neither checksum counts
skipped : reading_of Skip (worked 0x40 0x26C3 0xDADE) ≡ Ok value
unfolding worked packet value reading_of udp_reading words_of ones_sum pseudo_header
skipped = refl

-- An option, three octets behind the UDP datagram, two behind the IPv4 datagram.
options : reading_of Test (0x46 ∷ 0x10 ∷ 0 ∷ 0x25 ∷ 0x12 ∷ 0x34 ∷ 0 ∷ 0 ∷ 5 ∷ 0x11 ∷ 0x8D ∷ 0x2C ∷ 0xC0 ∷ 0xA8 ∷ 0 ∷ 1 ∷ 0xC0 ∷ 0xA8 ∷ 0 ∷ 2
    ∷ 0x94 ∷ 4 ∷ 0 ∷ 0 ∷ 3 ∷ 0xE8 ∷ 7 ∷ 0xD0 ∷ 0 ∷ 0x0A ∷ 0x0A ∷ 0x65 ∷ 0x68 ∷ 0x69 ∷ 1 ∷ 2 ∷ 3 ∷ 4 ∷ 5 ∷ [])
    ≡ Ok (record { from = 0xC0A80001; to = 0xC0A80002; from_port = 1000; to_port = 2000; payload = 0x68 ∷ 0x69 ∷ [] })
unfolding reading_of udp_reading words_of ones_sum pseudo_header
options = refl

-- the checksums that are written
written : header_sum_of value ≡ 0x26C2
unfolding value packet header_octets words_of ones_sum
written = refl

-- and that of UDP, whose data has an odd length
written-udp : udp_sum_of value ≡ 0xDADF
unfolding value packet udp_octets words_of ones_sum pseudo_header
written-udp = refl

-- a checksum that is computed as 0 is written as FFFF: the two octets of data are what it would be without them
full : udp_sum_of (record { from = 0; to = 0; from_port = 0; to_port = 0; payload = 0xFF ∷ 0xDA ∷ [] }) ≡ 0xFFFF
unfolding udp_octets words_of ones_sum pseudo_header
full = refl

-- The worked sum of RFC 1071, section 3: the words 0001, F203, F4F5 and F6F7 sum to DDF2.
published : ones_sum (words_of (0 ∷ 1 ∷ 0xF2 ∷ 3 ∷ 0xF4 ∷ 0xF5 ∷ 0xF6 ∷ 0xF7 ∷ [])) ≡ 0xDDF2
unfolding words_of ones_sum
published = refl
