-- The bits of the first octet, both ways.
use Rattle.std.proofs.Common.{◌≡◌, ℕ, ◌+◌, ◌*◌, ◌/◌, ◌%◌, ◌<◌, Bool, refl, arith}
use Rattle.std.specs.Int.{bit_at, from_bool}
use Rattle.std.specs.Prelude.{◌==◌}
use Rattle.octet_fields.proofs.FlagLemmas.{from_bool-most, flag-is, bit-is}

-- what the first octet says of a packet
pub record Says (first : ℕ) (padded extended : Bool) (count : ℕ) : Type 0 where
  pub version : first / 64 ≡ 2
  pub padding : (bit_at first 5 == 1) ≡ padded
  pub extension : (bit_at first 4 == 1) ≡ extended
  pub sources : first % 16 ≡ count

pub first-says : (padded extended : Bool) (count : ℕ) → count < 16
    → Says (128 + 32 * from_bool padded + 16 * from_bool extended + count) padded extended count
first-says padded extended count lt =
    let padding = from_bool-most padded in
    let extension = from_bool-most extended in
    record {
      version = omega (arith, padding, extension);
      padding = flag-is _ padded (omega (arith, padding, extension));
      extension = flag-is _ extended (omega (arith, padding, extension));
      sources = omega (arith, padding, extension);
    }

pub first-back : (first : ℕ) → first < 256 → first / 64 ≡ 2
    → first ≡ 128 + 32 * from_bool (bit_at first 5 == 1) + 16 * from_bool (bit_at first 4 == 1) + first % 16
first-back first lt version = omega (arith, bit-is first 5 _ refl, bit-is first 4 _ refl)
