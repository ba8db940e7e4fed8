-- One point more.
use Rattle.std.proofs.Common.{◌≡◌, ℕ, ◌+◌, ◌<◌, max, List, [], ◌∷◌, ◌++◌, length, take, get_or, sym, ap, ◌∙◌, arith}
use Rattle.std.proofs.lemmas.List.{take_more, length-take}
use Rattle.html_parts.specs.Chart.{greatest_of, with_point, with_points}

-- the greatest with one more behind it
pub greatest_push : (points : List ℕ) (point : ℕ) → greatest_of (points ++ point ∷ []) ≡ max (greatest_of points) point
greatest_push [] point = omega arith
greatest_push (p ∷ points) point = let rest = greatest_push points point in omega (arith, rest)

-- points behind others go on from the next place
pub points_push : (text : List ℕ) (place next : ℕ) (points : List ℕ) (point : ℕ) → next ≡ place + length points
    → with_points text place (points ++ point ∷ []) ≡ with_point (with_points text place points) (next + 1) point
points_push text place next [] point is = ap (λ (n : ℕ). with_point text n point) (omega (arith, is))
points_push text place next (p ∷ points) point is = points_push (with_point text (place + 1) p) (place + 1) next points point (omega (arith, is))

-- six parts that were put in turn
pub six_in_turn : (front a b c d e f x y z w v whole : List ℕ) → x ≡ front ++ a → y ≡ x ++ b → z ≡ y ++ c → w ≡ z ++ d → v ≡ w ++ e → whole ≡ v ++ f
    → whole ≡ (((((front ++ a) ++ b) ++ c) ++ d) ++ e) ++ f
six_in_turn front a b c d e f x y z w v whole first second third fourth fifth last = cc

-- a point more
pub greatest_more : (points : List ℕ) (i before after : ℕ) → i < length points → before ≡ greatest_of (take i points) → after ≡ max before (get_or points i 0) → after ≡ greatest_of (take (i + 1) points)
greatest_more points i before after low was is =
    is ∙ ap (λ (g : ℕ). max g (get_or points i 0)) was ∙ sym (ap greatest_of (take_more points i 0 low) ∙ greatest_push (take i points) (get_or points i 0))

pub points_more : (points : List ℕ) (i : ℕ) (text before after : List ℕ) → i < length points → before ≡ with_points text 0 (take i points) → after ≡ with_point before (i + 1) (get_or points i 0) → after ≡ with_points text 0 (take (i + 1) points)
points_more points i text before after low was is =
    let count : length (take i points) ≡ i = length-take i points ∙ omega (arith, low) in
    is ∙ ap (λ (t : List ℕ). with_point t (i + 1) (get_or points i 0)) was
    ∙ sym (ap (with_points text 0) (take_more points i 0 low) ∙ points_push text 0 i (take i points) (get_or points i 0) (omega (arith, count)))
