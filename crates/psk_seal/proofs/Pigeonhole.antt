-- The pigeonhole principle: n numbers below m that are all different are at most m.
use Rattle.std.proofs.Common.{◌≡◌, ℕ, zero, suc, ◌<◌, ◌≤◌, ◌==◌, if◌then◌else◌, arith}
use Rattle.std.proofs.lemmas.Bool.Decides.{nat_tests}

abbrev pub AreBelow : (ℕ → ℕ) → ℕ → ℕ → Type 0
AreBelow f n m = (i : ℕ) → i < n → f i < m

abbrev pub AreApart : (ℕ → ℕ) → ℕ → Type 0
AreApart f n = (i j : ℕ) → i < n → j < n → f i ≡ f j → i ≡ j

-- the last number in place of the greatest
abbrev swapped : (ℕ → ℕ) → ℕ → ℕ → ℕ → ℕ
swapped f n m i = if f i == m then f n else f i

below_swapped : (f : ℕ → ℕ) (n m : ℕ) → AreBelow f (suc n) (suc m) → AreApart f (suc n) → AreBelow (swapped f n m) n m
below_swapped f n m below apart i low = grind (arith, nat_tests, below i (omega arith), below n (omega arith), apart i n (omega arith) (omega arith))

apart_swapped : (f : ℕ → ℕ) (n m : ℕ) → AreApart f (suc n) → AreApart (swapped f n m) n
apart_swapped f n m apart i j a b same = grind (arith, nat_tests, apart i j (omega arith) (omega arith), apart n j (omega arith) (omega arith), apart i n (omega arith) (omega arith))

pub pigeonhole : (n m : ℕ) (f : ℕ → ℕ) → AreBelow f n m → AreApart f n → n ≤ m
pigeonhole zero m f below apart = omega arith
pigeonhole (suc n) zero f below apart = absurd (omega (arith, below n (omega arith)))
pigeonhole (suc n) (suc m) f below apart = omega (arith, pigeonhole n m (swapped f n m) (below_swapped f n m below apart) (apart_swapped f n m apart))
