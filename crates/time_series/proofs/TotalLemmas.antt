-- The points of a series add up to its amounts.
use Rattle.std.proofs.Common.{◌≡◌, ◌≢◌, ℕ, zero, suc, ◌+◌, ◌/◌, ◌^◌, ◌<◌, ◌≤◌, List, [], ◌∷◌, map, refl, sym, ap, ◌∙◌, arith, inl, inr}
use Rattle.std.specs.Prelude.{◌==◌, if◌then◌else◌}
use Rattle.std.specs.List.{range_with_len, sum}
use Rattle.std.proofs.lemmas.List.Sums.{sum_by-cons}
use Rattle.std.proofs.lemmas.Bool.{cases_eq}
use Rattle.std.proofs.lemmas.Bool.Decides.{nat_tests}
use Rattle.time_series.specs.Points.{Mark, capped, latest, amount_in, halvings, points_of}

-- an amount at a place, and nothing elsewhere
abbrev at_place : ℕ → ℕ → ℕ → ℕ
at_place q a i = if q == i then a else 0

not_there : (q a i : ℕ) → q ≢ i → at_place q a i ≡ 0
not_there q a i other = grind (arith, nat_tests)

there : (q a i : ℕ) → q ≡ i → at_place q a i ≡ a
there q a i same = grind (arith, nat_tests)

sum_cons : (x : ℕ) (xs : List ℕ) → sum (x ∷ xs) ≡ x + sum xs
sum_cons x xs = sum_by-cons (λ (n : ℕ). n) x xs

-- before a place there is nothing of it
none_before : (n s q a : ℕ) → q < s → sum (map (at_place q a) (range_with_len s n)) ≡ 0
none_before zero s q a low = refl
none_before (suc n) s q a low =
    let here = not_there q a s (λ e. absurd (omega (arith, e, low))) in
    let rest = none_before n (s + 1) q a (omega (arith, low)) in
    sum_cons (at_place q a s) (map (at_place q a) (range_with_len (s + 1) n)) ∙ omega (arith, here, rest)

-- and over a range that has it all
one_among : (n s q a : ℕ) → s ≤ q → q < s + n → sum (map (at_place q a) (range_with_len s n)) ≡ a
one_among zero s q a low high = absurd (omega (arith, low, high))
one_among (suc n) s q a low high = elim (cases_eq q s) [
  | inl same ↦
      let here = there q a s same in
      let rest = none_before n (s + 1) q a (omega (arith, same)) in
      sum_cons (at_place q a s) (map (at_place q a) (range_with_len (s + 1) n)) ∙ omega (arith, here, rest)
  | inr other ↦
      let here = not_there q a s other in
      let rest = one_among n (s + 1) q a (omega (arith, low, other)) (omega (arith, high)) in
      sum_cons (at_place q a s) (map (at_place q a) (range_with_len (s + 1) n)) ∙ omega (arith, here, rest)
]

sum_both : (f g : ℕ → ℕ) (is : List ℕ) → sum (map (λ i. f i + g i) is) ≡ sum (map f is) + sum (map g is)
sum_both f g [] = refl
sum_both f g (i ∷ is) =
    let rest = sum_both f g is in
    let whole = sum_cons (f i + g i) (map (λ j. f j + g j) is) in
    let one = sum_cons (f i) (map f is) in
    let other = sum_cons (g i) (map g is) in
    whole ∙ omega (arith, rest) ∙ sym (ap (λ (n : ℕ). n + sum (map g (i ∷ is))) one ∙ ap (λ (n : ℕ). f i + sum (map f is) + n) other)

sum_none : (is : List ℕ) → sum (map (λ (i : ℕ). 0) is) ≡ 0
sum_none [] = refl
sum_none (i ∷ is) = let rest = sum_none is in sum_cons 0 (map (λ (j : ℕ). 0) is) ∙ omega (arith, rest)

sum_capped : (f : ℕ → ℕ) (is : List ℕ) → capped (sum (map (λ i. capped (f i)) is)) ≡ capped (sum (map f is))
sum_capped f [] = refl
sum_capped f (i ∷ is) =
    let rest = sum_capped f is in
    ap capped (sum_cons (capped (f i)) (map (λ j. capped (f j)) is)) ∙ omega (arith, rest) ∙ sym (ap capped (sum_cons (f i) (map f is)))

quotient_grows : (s t p : ℕ) → s ≤ t → s / p ≤ t / p
quotient_grows s t p le = grind arith

-- each amount stands in one bucket
all_among : (scale n last : ℕ) (marks : List Mark) → latest marks ≤ last → last / 2 ^ scale < n
    → sum (map (λ i. amount_in scale i marks) (range_with_len 0 n)) ≡ sum (map (λ (mark : Mark). mark.amount) marks)
all_among scale n last [] le high = sum_none (range_with_len 0 n)
all_among scale n last (mark ∷ marks) le high =
    let q : ℕ = mark.second / 2 ^ scale in
    let less = quotient_grows mark.second last (2 ^ scale) (omega (arith, le)) in
    let both = sum_both (at_place q mark.amount) (λ i. amount_in scale i marks) (range_with_len 0 n) in
    let here = one_among n 0 q mark.amount (omega arith) (omega (arith, less, high)) in
    let rest = all_among scale n last marks (omega (arith, le)) high in
    both ∙ omega (arith, here, rest) ∙ sym (sum_cons mark.amount (map (λ (m : Mark). m.amount) marks))

pub total_is : (marks : List Mark) → capped (sum (points_of marks)) ≡ capped (sum (map (λ (mark : Mark). mark.amount) marks))
total_is marks =
    let scale : ℕ = halvings (latest marks) in
    let n : ℕ = latest marks / 2 ^ scale + 1 in
    sum_capped (λ i. amount_in scale i marks) (range_with_len 0 n) ∙ ap capped (all_among scale n (latest marks) marks (omega arith) (omega arith))
