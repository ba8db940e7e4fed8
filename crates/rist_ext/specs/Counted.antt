-- An extension as librist 0.2 writes it where null packets were deleted: its size is 0, so how many packets there were
-- follows from those that are left and from the bits.
use Rattle.std.specs.Prelude.{ℕ, ◌∷◌, is_some, ◌+◌, ◌-◌, ◌*◌, ◌/◌, ◌%◌, ◌^◌, Bool, ◌&&◌, ◌||◌, not, List, length, take}
use Rattle.std.specs.Prelude.{drop, slice_index, count_ones, if◌then◌else◌, ◌==◌, nat_lt, Option, Some, None}
use Rattle.std.specs.Prelude.{option_map, Result, Ok, Err}
use Rattle.std.specs.Int.{w16, bit_at, from_bool, to_be_bytes}
use Rattle.ts_nulls.specs.Packets.{packet_len}
use Rattle.ts_nulls.specs.Shape.{Shape}
use Rattle.rist_ext.specs.declared.ext_word.TheConstants.{RIST_PROFILE}
use Rattle.rist_ext.specs.declared.ext_word.ExtWord.{ExtWord}
use Rattle.rist_ext.specs.declared.ext_word.ExtBad.{ExtBad}
use Rattle.rist_ext.specs.declared.ext_word.ExtBad.TheVariants.{Profile, Length, Size}
use Rattle.rist_ext.specs.Extension.{upper_of}
use Rattle.rist_ext.specs.Reading.{units_in, has_strip, upper_in, word_in}

-- Which of so many packets were null, by the low seven bits of the second octet. The first packet's bit is the highest
-- (0.2.11 and later); else, where the bits past so many places are clear, the last packet's is the lowest (0.2.7).
abbrev pub nulls_by : ℕ → ℕ → Option ℕ
nulls_by units bits =
    if bits % 2 ^ (7 - units) == 0 then Some bits
    else (if nat_lt bits (2 ^ units) then Some (bits * 2 ^ (7 - units)) else None)

-- so many packets, one to seven, of which these were null
abbrev pub shape_by : Bool → ℕ → ℕ → Option Shape
shape_by long units bits =
    if (units == 0) || nat_lt 7 units then None
    else option_map (λ nulls. record { units = units; long = long; nulls = nulls }) (nulls_by units bits)

-- what was deleted from a payload of which so many octets are left: these are whole packets, and each set bit stands
-- for one more
abbrev pub shape_left : Bool → ℕ → ℕ → Option Shape
shape_left long bits left =
    if not (left % packet_len long == 0) then None
    else shape_by long (left / packet_len long + count_ones bits) bits

-- the word of these octets with this shape
abbrev pub word_with : List ℕ → Option Shape → Result ExtWord ExtBad
word_with octets None = Err Size
word_with octets (Some shape) =
    Ok (record { strip = Some shape; upper = upper_in (slice_index octets 0) (take 2 (drop 2 octets)) })

-- the shape of a payload of which so many octets are left, by the second octet
abbrev pub shape_in : ℕ → List ℕ → Option Shape
shape_in left octets = shape_left (bit_at (slice_index octets 1) 7 == 1) (slice_index octets 1 % 128) left

-- ---- the octets that librist writes

-- a shape without its count of packets: the flag N, and the bits from the first place on
abbrev pub uncounted : Shape → Option ℕ → List ℕ
uncounted shape upper =
    (128 + 64 * from_bool (is_some upper)) ∷ (128 * from_bool shape.long + shape.nulls)
    ∷ to_be_bytes w16 (upper_of upper 0)

-- the same with the bits in the last places
abbrev pub uncounted_last : Shape → Option ℕ → List ℕ
uncounted_last shape upper =
    (128 + 64 * from_bool (is_some upper)) ∷ (128 * from_bool shape.long + shape.nulls / 2 ^ (7 - shape.units))
    ∷ to_be_bytes w16 (upper_of upper 0)

-- ---- what is read

-- the tests in their order; a size that isn't 0 is read as in this profile's own tunnel
unfoldable pub counted_reading_of : ℕ → ℕ → List ℕ → Result ExtWord ExtBad
counted_reading_of left profile octets =
    if not (profile == RIST_PROFILE) then Err Profile
    else (if not (length octets == 4) then Err Length
    else (if has_strip (slice_index octets 0) && (units_in (slice_index octets 0) == 0)
    then word_with octets (shape_in left octets)
    else Ok (word_in octets)))
