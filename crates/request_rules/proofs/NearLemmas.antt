-- Words for rising numbers that lie near together do too.
use Rattle.std.proofs.Common.{ℕ, zero, suc, ◌+◌, ◌<◌, ◌≤◌, true, false, cond, not, List, [], ◌∷◌, length, take, arith}
use Rattle.std.specs.Prelude.{◌==◌}
use Rattle.std.specs.List.{filter}
use Rattle.request_rules.specs.declared.policy.NackKind.{NackKind}
use Rattle.request_rules.specs.declared.policy.NackKind.TheVariants.{Range, Mask}
use Rattle.request_rules.specs.declared.word.AskWord.{AskWord}
use Rattle.request_rules.specs.Words.{run_with, runs_of, is_masked, mask_words, words_for, IsRisingIn}
use Rattle.request_rules.specs.Near.{AreAscending, AreClose, AreNear}
use Rattle.request_rules.proofs.WordLemmas.{rising_le, rising-filter}

-- ---- words of rising numbers ascend

weaker : (a b high : ℕ) (ws : List AskWord) → a ≤ b → AreAscending b high ws → AreAscending a high ws
weaker a b high [] l asc = tt
weaker a b high (w ∷ ws) l asc = (omega (arith, l, asc.0), asc.1, asc.2)

higher : (low high more : ℕ) (ws : List AskWord) → high ≤ more → AreAscending low high ws → AreAscending low more ws
higher low high more [] l asc = tt
higher low high more (w ∷ ws) l asc = (asc.0, omega (arith, l, asc.1), higher w.first high more ws l asc.2)

front_ascends : (n low high : ℕ) (ws : List AskWord) → AreAscending low high ws → AreAscending low high (take n ws)
front_ascends zero low high ws asc = tt
front_ascends (suc n) low high [] asc = tt
front_ascends (suc n) low high (w ∷ ws) asc = (asc.0, asc.1, front_ascends n w.first high ws asc.2)

run_ascends : (low x high : ℕ) (runs : List AskWord) → low ≤ x → x < high → AreAscending (x + 1) high runs → AreAscending low high (run_with x runs)
run_ascends low x high [] a b asc = (a, b, tt)
run_ascends low x high (r ∷ rs) a b asc =
    elim (r.first == x + 1) as (λ c. AreAscending low high (cond c (record { first = x; second = r.second + 1 } ∷ rs) (record { first = x; second = 0 } ∷ r ∷ rs))) [
      | true ↦ (a, b, weaker x r.first high rs (omega (arith, asc.0)) asc.2)
      | false ↦ (a, b, (omega (arith, asc.0), asc.1, asc.2))
    ]

runs_ascend : (low high : ℕ) (xs : List ℕ) → IsRisingIn low high xs → AreAscending low high (runs_of xs)
runs_ascend low high [] rising = tt
runs_ascend low high (x ∷ xs) rising =
    run_ascends low x high (runs_of xs) rising.0 (omega (arith, rising_le (x + 1) high xs rising.1)) (runs_ascend (x + 1) high xs rising.1)

masks_ascend : (n low high : ℕ) (xs : List ℕ) → IsRisingIn low high xs → AreAscending low high (mask_words n xs)
masks_ascend zero low high xs rising = tt
masks_ascend (suc n) low high [] rising = tt
masks_ascend (suc n) low high (x ∷ xs) rising =
    let rest = filter (λ y. not (is_masked x y)) xs in (
      rising.0,
      omega (arith, rising_le (x + 1) high xs rising.1),
      weaker x (x + 1) high (mask_words n rest) (omega arith) (masks_ascend n (x + 1) high rest (rising-filter (λ y. not (is_masked x y)) (x + 1) high xs rising.1)),
    )

words_ascend : (kind : NackKind) (low high : ℕ) (xs : List ℕ) → IsRisingIn low high xs → AreAscending low high (words_for kind 64 xs)
words_ascend Range low high xs rising = front_ascends 64 low high (runs_of xs) (runs_ascend low high xs rising)
words_ascend Mask low high xs rising = masks_ascend 64 low high xs rising

close_words : (low high : ℕ) (ws : List AskWord) → high ≤ low + 65536 → AreAscending low high ws → AreClose ws
close_words low high [] l asc = tt
close_words low high (w ∷ ws) l asc = higher w.first high (w.first + 65536) ws (omega (arith, l, asc.0)) asc.2

-- ---- there are at most 64

few_front : (n : ℕ) (ws : List AskWord) → length (take n ws) ≤ n
few_front zero ws = omega arith
few_front (suc n) [] = omega arith
few_front (suc n) (w ∷ ws) = omega (arith, few_front n ws)

few_masks : (n : ℕ) (xs : List ℕ) → length (mask_words n xs) ≤ n
few_masks zero xs = omega arith
few_masks (suc n) [] = omega arith
few_masks (suc n) (x ∷ xs) = omega (arith, few_masks n (filter (λ y. not (is_masked x y)) xs))

few_words : (kind : NackKind) (xs : List ℕ) → length (words_for kind 64 xs) ≤ 64
few_words Range xs = few_front 64 (runs_of xs)
few_words Mask xs = few_masks 64 xs

-- ---- both

-- words for rising numbers that lie less than 65,536 apart
pub words_near : (kind : NackKind) (low high : ℕ) (xs : List ℕ) → high ≤ low + 65536 → IsRisingIn low high xs → AreNear (words_for kind 64 xs)
words_near kind low high xs near rising =
    record { few = few_words kind xs; close = close_words low high (words_for kind 64 xs) near (words_ascend kind low high xs rising) }
