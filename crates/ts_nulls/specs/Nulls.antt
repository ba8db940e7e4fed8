-- A payload with its null packets deleted, and with them put back (this profile).
use Rattle.std.specs.Prelude.{ℕ, zero, suc, ◌+◌, ◌*◌, ◌^◌, Bool, true, false, ◌&&◌, List, [], ◌∷◌, ◌++◌, length, take}
use Rattle.std.specs.Prelude.{drop, if◌then◌else◌, ◌==◌, Option, Some, None, Result, Ok, Err}
use Rattle.std.specs.List.{flat_map, list_all, list_any}
use Rattle.std.specs.Int.{bit_at}
use Rattle.ts_nulls.specs.declared.nulls.NullBad.{NullBad}
use Rattle.ts_nulls.specs.declared.nulls.NullBad.TheVariants.{Shape as BadShape}
use Rattle.ts_nulls.specs.Shape.{Shape}
use Rattle.ts_nulls.specs.Packets.{packet_len, packets_in, packets_of, begins_packet, is_null, null_packet}

-- a packet if it isn't null
abbrev pub kept : List ℕ → List ℕ
kept packet = if is_null packet then [] else packet

-- a packet, or what stands for it if it is null
abbrev pub blanked : Bool → List ℕ → List ℕ
blanked long packet = if is_null packet then null_packet long else packet

-- the bits of packets of which the first has the highest of so many
abbrev pub null_bits : ℕ → List (List ℕ) → ℕ
null_bits zero packets = 0
null_bits (suc places) [] = 0
null_bits (suc places) (packet ∷ packets) = (if is_null packet then 2 ^ places else 0) + null_bits places packets

-- which of so many packets were null, by those bits
abbrev pub null_flags : ℕ → ℕ → ℕ → List Bool
null_flags zero count bits = []
null_flags (suc places) zero bits = []
null_flags (suc places) (suc count) bits = (bit_at bits places == 1) ∷ null_flags places count bits

-- what is told of these packets
abbrev pub shape_of : Bool → ℕ → List (List ℕ) → Shape
shape_of long count packets = record { units = count; long = long; nulls = null_bits 7 packets }

-- the packets each begin as one, and some is null
abbrev pub can_strip : List (List ℕ) → Bool
can_strip packets = list_all begins_packet packets && list_any is_null packets

-- what was deleted of packets of a payload, and those that are kept
abbrev pub stripping_at : Bool → ℕ → List (List ℕ) → Option (Shape × List ℕ)
stripping_at long count packets =
    if can_strip packets then Some (shape_of long count packets, flat_map kept packets) else None

-- the same of a payload that is so many packets, if it is
abbrev pub stripping_by : Option (Bool × ℕ) → List ℕ → Option (Shape × List ℕ)
stripping_by None payload = None
stripping_by (Some found) payload = stripping_at found.0 found.1 (packets_of (packet_len found.0) found.1 payload)

-- The payload without its null packets, and what they were; none where the payload isn't one to seven
-- whole packets that each begin as one, or none of them is null.
unfoldable pub stripping_of : List ℕ → Option (Shape × List ℕ)
stripping_of payload = stripping_by (packets_in (length payload)) payload

-- the packets with each null one as the one that stands for it, if each begins as one
abbrev pub blanking_at : Bool → List (List ℕ) → List ℕ → List ℕ
blanking_at long packets payload = if list_all begins_packet packets then flat_map (blanked long) packets else payload

-- the same of a payload that is so many packets, if it is
abbrev pub blanking_by : Option (Bool × ℕ) → List ℕ → List ℕ
blanking_by None payload = payload
blanking_by (Some found) payload = blanking_at found.0 (packets_of (packet_len found.0) found.1 payload) payload

-- The payload with each null packet as the one that stands for it; another payload stays as it is.
unfoldable pub blanking_of : List ℕ → List ℕ
blanking_of payload = blanking_by (packets_in (length payload)) payload

-- packets by their flags: where one was null the packet that stands for it, else the next of those kept
abbrev pub restored : Bool → List Bool → List ℕ → List ℕ
restored long [] octets = []
restored long (true ∷ flags) octets = null_packet long ++ restored long flags octets
restored long (false ∷ flags) octets =
    take (packet_len long) octets ++ restored long flags (drop (packet_len long) octets)

-- how many weren't null
abbrev pub kept_count : List Bool → ℕ
kept_count [] = 0
kept_count (true ∷ flags) = kept_count flags
kept_count (false ∷ flags) = 1 + kept_count flags

-- which packets were null, by what is told
abbrev pub flags_of : Shape → List Bool
flags_of shape = null_flags 7 shape.units shape.nulls

-- the whole payload, of what was kept; the length has to be that of the packets that weren't null
unfoldable pub restoring_of : Shape → List ℕ → Result (List ℕ) NullBad
restoring_of shape octets =
    if length octets == packet_len shape.long * kept_count (flags_of shape)
    then Ok (restored shape.long (flags_of shape) octets)
    else Err BadShape

-- what was written at the front of a block
abbrev pub written : List ℕ → Result ℕ NullBad → Result (List ℕ) NullBad
written out (Ok len) = Ok (take len out)
written out (Err bad) = Err bad

-- what is told, and what was written at the front of a block
abbrev pub stripped_into : List ℕ → Option (Shape × ℕ) → Option (Shape × List ℕ)
stripped_into out None = None
stripped_into out (Some found) = Some (found.0, take found.1 out)
