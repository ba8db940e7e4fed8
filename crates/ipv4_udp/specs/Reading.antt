-- What is read of octets as a UDP datagram in IPv4 (RFC 791, section 3.1; RFC 768): its value, or the first test that
-- fails.
use Rattle.std.specs.Prelude.{ℕ, ◌-◌, ◌*◌, ◌/◌, ◌%◌, ◌^◌, Bool, true, false, ◌&&◌, ◌||◌, not, List, ◌++◌, length, take}
use Rattle.std.specs.Prelude.{drop, slice_index, if◌then◌else◌, ◌==◌, nat_lt, Result, Ok, Err}
use Rattle.std.specs.Int.{w16, w32, from_be_bytes}
use Rattle.ipv4_udp.specs.declared.ip.IpBad.{IpBad}
use Rattle.ipv4_udp.specs.declared.ip.IpBad.TheVariants.{Short, Version, Header, HeaderSum, Length, Fragment, Protocol}
use Rattle.ipv4_udp.specs.declared.ip.IpBad.TheVariants.{UdpShort, UdpLength, UdpSum}
use Rattle.ipv4_udp.specs.declared.ip.Sums.{Sums}
use Rattle.ipv4_udp.specs.declared.ip.Sums.TheVariants.{Test, Skip}
use Rattle.ipv4_udp.specs.Sum.{is_summed}
use Rattle.ipv4_udp.specs.Ip.{Datagram, pseudo_header, udp_protocol}

-- the number of 16 bits at this place
abbrev pub number_at : ℕ → List ℕ → ℕ
number_at at octets = from_be_bytes w16 (take 2 (drop at octets))

-- the address at this place
abbrev pub address_at : ℕ → List ℕ → ℕ
address_at at octets = from_be_bytes w32 (take 4 (drop at octets))

-- the checksums count
abbrev pub is_tested : Sums → Bool
is_tested Test = true
is_tested Skip = false

-- ---- the IPv4 header

-- the version, in the first octet
abbrev pub version_of : List ℕ → ℕ
version_of octets = slice_index octets 0 / 16

-- how long the header is: the first octet counts its 32-bit words
abbrev pub header_len : List ℕ → ℕ
header_len octets = 4 * (slice_index octets 0 % 16)

-- how long the datagram is with its header
abbrev pub total_len : List ℕ → ℕ
total_len octets = number_at 2 octets

-- more fragments follow, or the fragment offset isn't 0
abbrev pub is_fragment : List ℕ → Bool
is_fragment octets = not (number_at 6 octets % 2 ^ 14 == 0)

-- its checksum is wrong, where checksums count
abbrev pub is_bad_header_sum : Sums → List ℕ → Bool
is_bad_header_sum sums octets = is_tested sums && not (is_summed (take (header_len octets) octets))

-- what the header carries, up to the total length
abbrev pub udp_in : List ℕ → List ℕ
udp_in octets = take (total_len octets - header_len octets) (drop (header_len octets) octets)

-- ---- the UDP datagram

-- how long it says that it is
abbrev pub udp_len : List ℕ → ℕ
udp_len udp = number_at 4 udp

-- Between these addresses its checksum is wrong, where checksums count. 0 says that none was made.
abbrev pub is_bad_udp_sum : Sums → ℕ → ℕ → List ℕ → Bool
is_bad_udp_sum sums from to udp =
    is_tested sums && (not (number_at 6 udp == 0)
    && not (is_summed (pseudo_header from to (udp_len udp) ++ take (udp_len udp) udp)))

-- its value, where no test fails
abbrev pub value_in : ℕ → ℕ → List ℕ → Datagram
value_in from to udp = record {
  from = from;
  to = to;
  from_port = number_at 0 udp;
  to_port = number_at 2 udp;
  payload = take (udp_len udp - 8) (drop 8 udp);
}

-- the tests in their order, between these addresses
unfoldable pub udp_reading : Sums → ℕ → ℕ → List ℕ → Result Datagram IpBad
udp_reading sums from to udp =
    if nat_lt (length udp) 8 then Err UdpShort
    else (if nat_lt (udp_len udp) 8 || nat_lt (length udp) (udp_len udp) then Err UdpLength
    else (if is_bad_udp_sum sums from to udp then Err UdpSum
    else Ok (value_in from to udp)))

-- ---- the whole

-- the tests in their order: those of the header, and then those of what it carries
unfoldable pub reading_of : Sums → List ℕ → Result Datagram IpBad
reading_of sums octets =
    if nat_lt (length octets) 20 then Err Short
    else (if not (version_of octets == 4) then Err Version
    else (if nat_lt (header_len octets) 20 || nat_lt (length octets) (header_len octets) then Err Header
    else (if is_bad_header_sum sums octets then Err HeaderSum
    else (if nat_lt (total_len octets) (header_len octets) || nat_lt (length octets) (total_len octets) then Err Length
    else (if is_fragment octets then Err Fragment
    else (if not (slice_index octets 9 == udp_protocol) then Err Protocol
    else udp_reading sums (address_at 12 octets) (address_at 16 octets) (udp_in octets)))))))
