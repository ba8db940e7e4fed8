-- The bits of the first half word, both ways.
use Rattle.std.proofs.Common.{◌≡◌, ℕ, ◌+◌, ◌*◌, ◌/◌, ◌%◌, ◌^◌, ◌<◌, Bool, false, arith}
use Rattle.std.specs.Int.{bit_at, from_bool}
use Rattle.std.specs.Prelude.{◌==◌}
use Rattle.octet_fields.proofs.FlagLemmas.{from_bool-most, flag-is, bit-is}

-- what the half word says of a header
pub record Says (word : ℕ) (keyed numbered : Bool) : Type 0 where
  pub version : word % 8 ≡ 0
  pub checksum : (bit_at word 15 == 1) ≡ false
  pub first : (bit_at word 14 == 1) ≡ false
  pub second : (bit_at word 11 == 1) ≡ false
  pub third : (bit_at word 10 == 1) ≡ false
  pub key : (bit_at word 13 == 1) ≡ keyed
  pub sequence : (bit_at word 12 == 1) ≡ numbered
  pub below : word < 2 ^ 16

pub word-says : (keyed numbered : Bool) (ignored : ℕ) → ignored < 128
    → Says (2 ^ 13 * from_bool keyed + 2 ^ 12 * from_bool numbered + 8 * ignored) keyed numbered
word-says keyed numbered ignored lt =
    let key = from_bool-most keyed in
    let sequence = from_bool-most numbered in
    record {
      version = omega (arith, key, sequence);
      checksum = flag-is _ false (omega (arith, key, sequence));
      first = flag-is _ false (omega (arith, key, sequence));
      second = flag-is _ false (omega (arith, key, sequence));
      third = flag-is _ false (omega (arith, key, sequence));
      key = flag-is _ keyed (omega (arith, key, sequence));
      sequence = flag-is _ numbered (omega (arith, key, sequence));
      below = omega (arith, key, sequence);
    }

pub word-back : (word : ℕ) (keyed numbered : Bool) → Says word keyed numbered
    → word ≡ 2 ^ 13 * from_bool keyed + 2 ^ 12 * from_bool numbered + 8 * (word / 8 % 128)
word-back word keyed numbered says =
    omega (
      arith,
      says.version,
      says.below,
      bit-is word 15 false says.checksum,
      bit-is word 14 false says.first,
      bit-is word 13 keyed says.key,
      bit-is word 12 numbered says.sequence,
      bit-is word 11 false says.second,
      bit-is word 10 false says.third,
    )
