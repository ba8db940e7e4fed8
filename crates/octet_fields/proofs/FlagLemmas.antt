-- Flags and their bits, both ways.
use Rattle.std.proofs.Common.{◌≡◌, ℕ, ◌+◌, ◌*◌, ◌%◌, ◌<◌, ◌≤◌, Bool, true, false, refl, arith}
use Rattle.std.specs.Prelude.{◌==◌}
use Rattle.std.specs.Int.{bit_at, from_bool}
use Rattle.std.proofs.lemmas.Bool.{eq-eqb, ne_eqb, eqb-false}
use Rattle.std.proofs.lemmas.Bool.Decides.{nat_tests}
use Rattle.std.proofs.lemmas.Nat.Bits.{bit_at-lt}

pub from_bool-most : (flag : Bool) → from_bool flag ≤ 1
from_bool-most true = omega arith
from_bool-most false = omega arith

-- the flag whose bit this is
pub flag-is : (bit : ℕ) (flag : Bool) → bit ≡ from_bool flag → (bit == 1) ≡ flag
flag-is bit true e = eq-eqb bit 1 e
flag-is bit false e = ne_eqb bit 1 (λ one. omega (arith, e, one))

-- the bit of the flag that is read there
pub bit-is : (n k : ℕ) (flag : Bool) → (bit_at n k == 1) ≡ flag → bit_at n k ≡ from_bool flag
bit-is n k true is = grind (arith, nat_tests)
bit-is n k false is = let no = eqb-false (bit_at n k) 1 is in omega (arith, bit_at-lt n k, no)

-- a flag above seven bits of an octet
pub high_flag-says : (flag : Bool) (low : ℕ) → low < 128
    → ((bit_at (128 * from_bool flag + low) 7 == 1) ≡ flag) × ((128 * from_bool flag + low) % 128 ≡ low)
high_flag-says flag low lt =
    let most = from_bool-most flag in
    (flag-is _ flag (omega (arith, most)), omega (arith, most))

pub high_flag-back : (octet : ℕ) → octet < 256 → octet ≡ 128 * from_bool (bit_at octet 7 == 1) + octet % 128
high_flag-back octet lt = omega (arith, bit-is octet 7 (bit_at octet 7 == 1) refl)
