-- What a source holds of a payload.
use Rattle.std.proofs.Common.{◌≡◌, ◌≢◌, ℕ, zero, suc, ◌+◌, ◌-◌, ◌≤◌, ◌<◌, List, [], ◌∷◌, take, drop, length, refl, ap, sym, ◌∙◌, arith}
use Rattle.std.proofs.lemmas.List.{drop-drop, length-take-le, length-drop}

none_of : (n : ℕ) → ◌≡◌ {A = List ℕ} (take n []) []
none_of zero = refl
none_of (suc n) = refl

rest_of : (n m : ℕ) (l : List ℕ) → drop n (take m l) ≡ take (m - n) (drop n l)
rest_of zero m l = let same : m ≡ m - 0 = omega arith in ap (λ k. take k l) same
rest_of (suc n) zero l = let same : 0 ≡ 0 - suc n = omega arith in ap (λ k. take k (drop (suc n) l)) same
rest_of (suc n) (suc m) [] = sym (none_of (suc m - suc n))
rest_of (suc n) (suc m) (x ∷ l) = let same : m - n ≡ suc m - suc n = omega arith in rest_of n m l ∙ ap (λ k. take k (drop n l)) same

-- it holds the rest once so many octets of it were given
pub held_rest : (block : List ℕ) (from to n : ℕ) → take (to - (from + n)) (drop (from + n) block) ≡ drop n (take (to - from) (drop from block))
held_rest block from to n =
    let size : to - from - n ≡ to - (from + n) = omega arith in
    sym (rest_of n (to - from) (drop from block) ∙ (ap (λ m. take m (drop n (drop from block))) size ∙ ap (take (to - (from + n))) (drop-drop n from block)))

-- it holds some
pub held_some : (block : List ℕ) (from to : ℕ) → from < to → to ≤ length block → take (to - from) (drop from block) ≢ []
held_some block from to less within none =
    let rest : length (drop from block) ≡ length block - from = length-drop from block in
    let size : length (take (to - from) (drop from block)) ≡ to - from = length-take-le (to - from) (drop from block) (omega (arith, less, within, rest)) in
    let empty : length (take (to - from) (drop from block)) ≡ 0 = ap length none in
    omega (arith, less, size, empty)
