-- What is read of an extension: the word, or the first test that fails. Bits are counted from the least
-- significant of an octet.
use Rattle.std.specs.Prelude.{ℕ, ◌-◌, ◌/◌, ◌%◌, ◌^◌, Bool, ◌&&◌, not, List, length, take, drop, slice_index}
use Rattle.std.specs.Prelude.{if◌then◌else◌, ◌==◌, Option, Some, None, Result, Ok, Err}
use Rattle.std.specs.Int.{w16, from_be_bytes, bit_at}
use Rattle.ts_nulls.specs.Shape.{Shape}
use Rattle.rist_ext.specs.declared.ext_word.TheConstants.{RIST_PROFILE}
use Rattle.rist_ext.specs.declared.ext_word.ExtWord.{ExtWord}
use Rattle.rist_ext.specs.declared.ext_word.ExtBad.{ExtBad}
use Rattle.rist_ext.specs.declared.ext_word.ExtBad.TheVariants.{Profile, Length, Size}

-- how many packets there were, by the first octet
abbrev pub units_in : ℕ → ℕ
units_in first = first / 8 % 8

-- null packets were deleted
abbrev pub has_strip : ℕ → Bool
has_strip first = bit_at first 7 == 1

-- the bits of so many packets, of the low seven bits of the second octet
abbrev pub nulls_in : ℕ → ℕ → ℕ
nulls_in units second = second % 128 - second % 128 % 2 ^ (7 - units)

-- what was deleted, by the first two octets
abbrev pub strip_in : ℕ → ℕ → Option Shape
strip_in first second =
    if has_strip first
    then Some (record { units = units_in first; long = bit_at second 7 == 1; nulls = nulls_in (units_in first) second })
    else None

-- the upper half of the number, by the first octet and the last two
abbrev pub upper_in : ℕ → List ℕ → Option ℕ
upper_in first octets = if bit_at first 6 == 1 then Some (from_be_bytes w16 octets) else None

-- the word that stands in the octets, where no test fails
abbrev pub word_in : List ℕ → ExtWord
word_in octets = record {
  strip = strip_in (slice_index octets 0) (slice_index octets 1);
  upper = upper_in (slice_index octets 0) (take 2 (drop 2 octets));
}

-- the tests in their order
unfoldable pub reading_of : ℕ → List ℕ → Result ExtWord ExtBad
reading_of profile octets =
    if not (profile == RIST_PROFILE) then Err Profile
    else (if not (length octets == 4) then Err Length
    else (if has_strip (slice_index octets 0) && (units_in (slice_index octets 0) == 0) then Err Size
    else Ok (word_in octets)))
