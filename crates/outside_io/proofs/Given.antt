-- What a source in memory gives, and where it is cut.
use Rattle.std.proofs.Common.{◌≡◌, ℕ, ◌+◌, ◌<◌, ◌≤◌, List, ◌++◌, length, take, drop, sym, ap, ◌∙◌, arith, get_or, take-append-drop}
use Rattle.std.proofs.lemmas.List.{drop-drop, take-take}
use mathlib.Core.Logic.{inl, inr}
use Rattle.outside_io.specs.Memory.{IsNextCut, IsEarlier}

-- the octets that remained are those given, and then those that remain
pub given_front : (xs got : List ℕ) (at n m : ℕ) → n ≤ m → got ≡ take n (take m (drop at xs)) → drop at xs ≡ got ++ drop (at + n) xs
given_front xs got at n m fits all =
    let given : got ≡ take n (drop at xs) = all ∙ take-take n m (drop at xs) fits in
    sym (take-append-drop n (drop at xs)) ∙ ap (λ l. l ++ drop n (drop at xs)) (sym given) ∙ ap (λ l. got ++ l) (drop-drop n at xs)

-- one more cut looked at
pub next_cut_more : (cuts : List ℕ) (i at end next result : ℕ) → i < length cuts → IsNextCut cuts i at end next → IsEarlier at (get_or cuts i 0) next result → IsNextCut cuts (i + 1) at end result
next_cut_more cuts i at end next result inside so (inl e) = record {
  here = omega (arith, e.0, e.2);
  past = λ _. omega (arith, e.0, e.2);
  inside = omega (arith, so.inside, e.1, e.2);
  first = λ k small past. grind (arith, e.1, e.2, so.first k);
  one = inr (i, inside, sym e.2);
}
next_cut_more cuts i at end next result inside so (inr e) = record {
  here = omega (arith, so.here, e.1);
  past = λ some. omega (arith, so.past some, e.1);
  inside = omega (arith, so.inside, e.1);
  first = λ k small past. grind (arith, e.0, e.1, so.first k);
  one = rw e.1 so.one;
}
