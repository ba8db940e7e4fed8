-- Three ports.
use Rattle.std.proofs.Common.{◌≡◌, ◌<◌, ◌≤◌, ◌%◌, ℕ, zero, suc, List, [], ◌∷◌, length, refl, arith}
use Rattle.std.specs.Prelude.{slice_index}
use Rattle.rist_wire.specs.Among.{ArePorts}
use Rattle.test_wire.proofs.among.ports.Goals as goal

abbrev three : List ℕ
three = 1968 ∷ 1970 ∷ 65534 ∷ []

even : (k : ℕ) → k < 3 → slice_index three k % 2 ≡ 0
even zero low = refl
even (suc zero) low = refl
even (suc (suc zero)) low = refl
even (suc (suc (suc k))) low = absurd (omega arith)

high : (k : ℕ) → k < 3 → slice_index three k ≤ 65534
high zero low = omega arith
high (suc zero) low = omega arith
high (suc (suc zero)) low = omega arith
high (suc (suc (suc k))) low = absurd (omega arith)

different : (j k : ℕ) → j < 3 → k < 3 → slice_index three j ≡ slice_index three k → j ≡ k
different zero zero low few same = refl
different zero (suc zero) low few same = absurd (omega arith)
different zero (suc (suc zero)) low few same = absurd (omega arith)
different (suc zero) zero low few same = absurd (omega arith)
different (suc zero) (suc zero) low few same = refl
different (suc zero) (suc (suc zero)) low few same = absurd (omega arith)
different (suc (suc zero)) zero low few same = absurd (omega arith)
different (suc (suc zero)) (suc zero) low few same = absurd (omega arith)
different (suc (suc zero)) (suc (suc zero)) low few same = refl
different (suc (suc (suc j))) k low few same = absurd (omega arith)
different zero (suc (suc (suc k))) low few same = absurd (omega arith)
different (suc zero) (suc (suc (suc k))) low few same = absurd (omega arith)
different (suc (suc zero)) (suc (suc (suc k))) low few same = absurd (omega arith)

pub returns : goal.returns
returns c = record {
  ports = record {
    some = omega arith;
    few = omega arith;
    even = even;
    high = high;
    different = different;
  };
}
