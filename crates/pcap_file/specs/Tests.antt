-- The tests of a pcap file, in their order.
use Rattle.std.specs.Prelude.{◌≡◌, ◌⊎◌, ℕ, ◌+◌, ◌%◌, ◌^◌, ◌<◌, Bool, ◌&&◌, not, ◌==◌, List, ◌++◌, length, flat_map, All}
use Rattle.std.specs.Prelude.{take, drop, if◌then◌else◌, nat_lt, None, Some}
use Rattle.std.specs.declared.option.Option.{Option}
use Rattle.std.specs.Int.{w16, w32, from_be_bytes, from_le_bytes}
use Rattle.pcap_file.specs.declared.format.ByteOrder.{ByteOrder}
use Rattle.pcap_file.specs.declared.format.ByteOrder.TheVariants.{Big, Little}
use Rattle.pcap_file.specs.declared.format.Fraction.{Fraction}
use Rattle.pcap_file.specs.declared.format.Fraction.TheVariants.{Micros, Nanos}
use Rattle.pcap_file.specs.declared.bad.PcapKind.{PcapKind}
use Rattle.pcap_file.specs.declared.bad.PcapKind.TheVariants.{Magic, Truncated, Version, LinkType, Long, TooLong}
use Rattle.pcap_file.specs.declared.format.Format.{Format}
use Rattle.pcap_file.specs.Pcap.{is_link_type, IsHeader, Packet, Fits, spelling}

-- the number of 16 bits at this place, in this order
abbrev pub number_16_at : ByteOrder → ℕ → List ℕ → ℕ
number_16_at Big at octets = from_be_bytes w16 (take 2 (drop at octets))
number_16_at Little at octets = from_le_bytes w16 (take 2 (drop at octets))

-- and of 32 bits
abbrev pub number_32_at : ByteOrder → ℕ → List ℕ → ℕ
number_32_at Big at octets = from_be_bytes w32 (take 4 (drop at octets))
number_32_at Little at octets = from_le_bytes w32 (take 4 (drop at octets))

-- what the first four octets tell, read as a big-endian number
abbrev pub kind_of : ℕ → Option (ByteOrder × Fraction)
kind_of word =
    if word == 0xA1B2C3D4 then Some (Big, Micros)
    else (if word == 0xD4C3B2A1 then Some (Little, Micros)
    else (if word == 0xA1B23C4D then Some (Big, Nanos)
    else (if word == 0x4D3CB2A1 then Some (Little, Nanos)
    else None)))

-- the version is 2.4
abbrev pub is_version : ByteOrder → List ℕ → Bool
is_version order octets = (number_16_at order 4 octets == 2) && (number_16_at order 6 octets == 4)

-- the link type: the low half of the last number
abbrev pub link_type_in : ByteOrder → List ℕ → ℕ
link_type_in order octets = number_32_at order 20 octets % 2 ^ 16

-- the first test that fails of a header behind its magic number
abbrev pub fault_behind : Option (ByteOrder × Fraction) → List ℕ → Option PcapKind
fault_behind None octets = Some Magic
fault_behind (Some kind) octets =
    if nat_lt (length octets) 24 then Some Truncated
    else (if not (is_version kind.0 octets) then Some Version
    else (if not (is_link_type (link_type_in kind.0 octets)) then Some LinkType
    else None))

-- the first test that fails of these octets, the front of a file up to 24, as its header
abbrev pub fault_of_header : List ℕ → Option PcapKind
fault_of_header octets =
    if nat_lt (length octets) 4 then Some Magic else fault_behind (kind_of (from_be_bytes w32 (take 4 octets))) octets

-- how many octets a record's head says that it keeps
abbrev pub kept_said : ByteOrder → List ℕ → ℕ
kept_said order head = number_32_at order 8 head

-- the first test that fails of these octets at this offset, the front of them up to sixteen, as a record's head
abbrev pub fault_of_head : ByteOrder → ℕ → List ℕ → Option PcapKind
fault_of_head order at head =
    if nat_lt (length head) 16 then Some Truncated
    else (if nat_lt (2 ^ 18) (kept_said order head) then Some Long
    else (if nat_lt (2 ^ 40) (at + 16 + kept_said order head) then Some TooLong
    else None))

-- the octets behind a head are fewer than it says
abbrev pub fault_of_body : ByteOrder → List ℕ → List ℕ → Option PcapKind
fault_of_body order head body = if nat_lt (length body) (kept_said order head) then Some Truncated else None

-- the first of two tests that fails
abbrev pub or_else : Option PcapKind → Option PcapKind → Option PcapKind
or_else None next = next
or_else (Some kind) next = Some kind

-- the first test that fails of what stands at this offset; none where a record stands there
abbrev pub fault_at : ByteOrder → ℕ → List ℕ → Option PcapKind
fault_at order at rest =
    or_else (fault_of_head order at (take 16 rest)) (fault_of_body order (take 16 rest) (drop 16 rest))

-- whole records stand behind a header before this offset, and there a test fails first
pub record FaultIn (octets : List ℕ) (kind : PcapKind) (at : ℕ) : Type 0 where
  pub format : Format
  pub header : List ℕ
  pub done : List Packet
  pub rest : List ℕ
  pub is_header : IsHeader format header
  pub each : All Fits done
  pub whole : octets ≡ header ++ (flat_map (spelling format.order) done ++ rest)
  pub place : at ≡ 24 + length (flat_map (spelling format.order) done)
  pub some : 0 < length rest
  pub fails : fault_at format.order at rest ≡ Some kind

-- the first test that fails of all octets, and its offset
abbrev pub BadAt : List ℕ → PcapKind → ℕ → Type 0
BadAt octets kind at = ((at ≡ 0) × (fault_of_header (take 24 octets) ≡ Some kind)) ⊎ FaultIn octets kind at
