-- What is read of octets as a GRE header: the header and where the rest begins, or the first test that
-- fails. Bits are counted from the least significant of the first two octets, a word of 16 bits.
use Rattle.std.specs.Prelude.{ℕ, ◌+◌, ◌*◌, ◌%◌, Bool, ◌&&◌, ◌||◌, not, List, length, take, drop, if◌then◌else◌, ◌==◌}
use Rattle.std.specs.Prelude.{nat_lt, Option, Some, None, is_some, Result, Ok, Err}
use Rattle.std.specs.Int.{w16, w32, from_be_bytes, bit_at, from_bool}
use Rattle.gre_tunnel.specs.declared.gre.Gre.{Gre}
use Rattle.gre_tunnel.specs.declared.gre.GreBad.{GreBad}
use Rattle.gre_tunnel.specs.declared.gre.GreBad.TheVariants.{Short, Version, Checksum, Reserved, KeyedNoSequence}
use Rattle.gre_tunnel.specs.declared.gre.GreBad.TheVariants.{Protocol}
use Rattle.gre_tunnel.specs.Gre.{Header, keepalive_protocol, datagram_protocol, full_protocol}

-- the flags and the version
abbrev pub flags_of : List ℕ → ℕ
flags_of octets = from_be_bytes w16 (take 2 octets)

-- the EtherType of what follows the header
abbrev pub protocol_of : List ℕ → ℕ
protocol_of octets = from_be_bytes w16 (take 2 (drop 2 octets))

-- the flag at this bit
abbrev pub is_set : List ℕ → ℕ → Bool
is_set octets k = bit_at (flags_of octets) k == 1

-- the flags of a key and of a sequence number
abbrev pub has_key : List ℕ → Bool
has_key octets = is_set octets 13

-- and a sequence number
abbrev pub has_sequence : List ℕ → Bool
has_sequence octets = is_set octets 12

-- one of the three bits that must be 0
abbrev pub has_reserved : List ℕ → Bool
has_reserved octets = is_set octets 14 || (is_set octets 11 || is_set octets 10)

-- how long the header is
abbrev pub header_len : List ℕ → ℕ
header_len octets = 4 + 4 * from_bool (has_key octets) + 4 * from_bool (has_sequence octets)

-- the number of 32 bits at this place, where it is there
abbrev pub number_at : Bool → ℕ → List ℕ → Option ℕ
number_at flag at octets = if flag then Some (from_be_bytes w32 (take 4 (drop at octets))) else None

-- the header that stands in the octets, where no test fails
abbrev pub gre_in : List ℕ → Gre
gre_in octets = record {
  key = number_at (has_key octets) 4 octets;
  sequence = number_at (has_sequence octets) (4 + 4 * from_bool (has_key octets)) octets;
  protocol = protocol_of octets;
  rest = header_len octets;
}

-- one of the tunnel's three
abbrev pub is_known_protocol : ℕ → Bool
is_known_protocol protocol =
    (protocol == keepalive_protocol) || ((protocol == datagram_protocol) || (protocol == full_protocol))

-- The tests in their order. No checksum is taken, and no key without a sequence number (this profile).
unfoldable pub reading_of : List ℕ → Result Gre GreBad
reading_of octets =
    if nat_lt (length octets) 4 then Err Short
    else (if not (flags_of octets % 8 == 0) then Err Version
    else (if is_set octets 15 then Err Checksum
    else (if has_reserved octets then Err Reserved
    else (if has_key octets && not (has_sequence octets) then Err KeyedNoSequence
    else (if nat_lt (length octets) (header_len octets) then Err Short
    else (if not (is_known_protocol (protocol_of octets)) then Err Protocol
    else Ok (gre_in octets)))))))

-- what is told of a header: also how long it is
abbrev pub value_of : Header → Gre
value_of header = record {
  key = header.key;
  sequence = header.sequence;
  protocol = header.protocol;
  rest = 4 + 4 * from_bool (is_some header.key) + 4 * from_bool (is_some header.sequence);
}
