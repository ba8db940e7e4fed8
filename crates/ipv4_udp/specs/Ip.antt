-- UDP datagrams in IPv4 (RFC 791, section 3.1; RFC 768), and which octets spell one.
use Rattle.std.specs.Prelude.{◌≡◌, ◌⊎◌, ℕ, ◌+◌, ◌*◌, ◌/◌, ◌%◌, ◌^◌, ◌<◌, ◌≤◌, List, ◌∷◌, ◌++◌, length}
use Rattle.std.specs.Int.{w16, w32, to_be_bytes}
use Rattle.ipv4_udp.specs.Sum.{words_of, ones_sum, whole_sum}
use Rattle.ipv4_udp.specs.declared.ip.Sums.{Sums}
use Rattle.ipv4_udp.specs.declared.ip.Sums.TheVariants.{Test, Skip}

-- what is read of a datagram: the addresses, the ports and the data
pub record Datagram : Type 0 where
  pub from : ℕ
  pub to : ℕ
  pub from_port : ℕ
  pub to_port : ℕ
  pub payload : List ℕ

-- What else stands there. `flags`: the reserved one and that against fragmentation. `padding` stands behind the UDP
-- datagram within the total length, `trailer` behind the total length.
pub record OtherFields : Type 0 where
  pub service : ℕ
  pub identification : ℕ
  pub flags : ℕ
  pub time_to_live : ℕ
  pub header_sum : ℕ
  pub options : List ℕ
  pub udp_sum : ℕ
  pub padding : List ℕ
  pub trailer : List ℕ

-- the protocol of UDP in IPv4
abbrev pub udp_protocol : ℕ
udp_protocol = 17

-- how long a UDP datagram is, its eight octets and its data
abbrev pub udp_length : Datagram → ℕ
udp_length datagram = 8 + length datagram.payload

-- how long an IPv4 datagram is with its header
abbrev pub total_length : Datagram → OtherFields → ℕ
total_length datagram others =
    20 + length others.options + udp_length datagram + length others.padding

-- The header: version 4 and how many 32-bit words it has, the service, the total length, the identification, the flags
-- (no more fragments follow) and the fragment offset 0, the time to live, the protocol, the checksum, the addresses,
-- the options.
unfoldable pub header_octets : Datagram → OtherFields → List ℕ
header_octets datagram others =
    (64 + (5 + length others.options / 4)) ∷ others.service ∷
    (to_be_bytes w16 (total_length datagram others) ++ (to_be_bytes w16 others.identification
    ++ (to_be_bytes w16 (2 ^ 14 * others.flags) ++ (others.time_to_live ∷ udp_protocol ∷
    (to_be_bytes w16 others.header_sum
    ++ (to_be_bytes w32 datagram.from ++ (to_be_bytes w32 datagram.to ++ others.options)))))))

-- the UDP datagram: the ports, its length, its checksum, the data
unfoldable pub udp_octets : Datagram → ℕ → List ℕ
udp_octets datagram udp_sum =
    to_be_bytes w16 datagram.from_port ++ (to_be_bytes w16 datagram.to_port
    ++ (to_be_bytes w16 (udp_length datagram) ++ (to_be_bytes w16 udp_sum ++ datagram.payload)))

-- what stands before a UDP datagram where it is summed: the addresses, a zero octet, the protocol, its length
unfoldable pub pseudo_header : ℕ → ℕ → ℕ → List ℕ
pseudo_header from to len =
    to_be_bytes w32 from ++ (to_be_bytes w32 to ++ (0 ∷ udp_protocol ∷ to_be_bytes w16 len))

-- all octets of a datagram with these other fields
abbrev pub spelling : Datagram → OtherFields → List ℕ
spelling datagram others =
    header_octets datagram others
    ++ (udp_octets datagram others.udp_sum ++ (others.padding ++ others.trailer))

-- each field fits its bits
pub record IsDatagram (datagram : Datagram) : Type 0 where
  pub from : datagram.from < 2 ^ 32
  pub to : datagram.to < 2 ^ 32
  pub from_port : datagram.from_port < 2 ^ 16
  pub to_port : datagram.to_port < 2 ^ 16

-- each field fits its bits; the options are ten 32-bit words at most
pub record AreFields (datagram : Datagram) (others : OtherFields) : Type 0 where
  pub service : others.service < 2 ^ 8
  pub identification : others.identification < 2 ^ 16
  pub flags : others.flags < 4
  pub time_to_live : others.time_to_live < 2 ^ 8
  pub header_sum : others.header_sum < 2 ^ 16
  pub options : length others.options ≤ 40
  pub words : length others.options % 4 ≡ 0
  pub udp_sum : others.udp_sum < 2 ^ 16
  pub total : total_length datagram others < 2 ^ 16

-- The header holds its checksum. So does the UDP datagram behind its pseudo-header, or 0 says that none was made.
pub record AreSummed (datagram : Datagram) (others : OtherFields) : Type 0 where
  pub header : ones_sum (words_of (header_octets datagram others)) ≡ whole_sum
  pub udp : (others.udp_sum ≡ 0) ⊎ (ones_sum (words_of (pseudo_header datagram.from datagram.to (udp_length datagram)
      ++ udp_octets datagram others.udp_sum)) ≡ whole_sum)

-- the checksums, where they count
abbrev pub HasSums : Sums → Datagram → OtherFields → Type 0
HasSums Test datagram others = AreSummed datagram others
HasSums Skip datagram others = Unit {0}

-- the octets spell the datagram, with some other fields
pub record Spells (sums : Sums) (datagram : Datagram) (octets : List ℕ) : Type 0 where
  pub fits : IsDatagram datagram
  pub others : OtherFields
  pub fields : AreFields datagram others
  pub summed : HasSums sums datagram others
  pub whole : octets ≡ spelling datagram others
