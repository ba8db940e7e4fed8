-- Transport stream packets (ISO/IEC 13818-1, section 2.4.3): 188 octets each, or 204 with sixteen octets
-- after them that aren't interpreted. A payload of one to seven whole packets has one size by its length.
use Rattle.std.specs.Prelude.{ℕ, zero, suc, ◌-◌, ◌/◌, ◌%◌, Bool, true, false, ◌&&◌, List, [], ◌∷◌, take, drop}
use Rattle.std.specs.Prelude.{replicate, slice_index, if◌then◌else◌, ◌==◌, nat_lt, Option, Some, None}
use Rattle.ts_nulls.specs.declared.packets.TheConstants.{SHORT_LEN, LONG_LEN, SYNC_BYTE}

-- how many octets a packet has
abbrev pub packet_len : Bool → ℕ
packet_len long = if long then LONG_LEN else SHORT_LEN

-- so many octets are one to seven whole packets of this length
abbrev pub are_whole : ℕ → ℕ → Bool
are_whole len size = (len % size == 0) && (nat_lt 0 (len / size) && nat_lt (len / size) 8)

-- whether the packets have 204 octets, and how many there are
abbrev pub packets_in : ℕ → Option (Bool × ℕ)
packets_in len =
    if are_whole len SHORT_LEN then Some (false, len / SHORT_LEN)
    else (if are_whole len LONG_LEN then Some (true, len / LONG_LEN) else None)

-- the packets at the front of the octets
abbrev pub packets_of : ℕ → ℕ → List ℕ → List (List ℕ)
packets_of size zero octets = []
packets_of size (suc count) octets = take size octets ∷ packets_of size count (drop size octets)

-- the sync byte
abbrev pub begins_packet : List ℕ → Bool
begins_packet packet = slice_index packet 0 == SYNC_BYTE

-- the null packet: PID 0x1FFF, in the low 13 bits of the second and third octet
abbrev pub is_null : List ℕ → Bool
is_null packet = (slice_index packet 1 % 32 == 31) && (slice_index packet 2 == 255)

-- the null packet that stands for a deleted one (this profile)
abbrev pub null_packet : Bool → List ℕ
null_packet long = SYNC_BYTE ∷ 0x1F ∷ 0xFF ∷ 0x10 ∷ replicate (packet_len long - 4) 0xFF
