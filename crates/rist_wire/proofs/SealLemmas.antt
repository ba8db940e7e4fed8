-- Texts that are enciphered in place.
use Rattle.std.proofs.Common.{◌≡◌, ℕ, ◌+◌, ◌-◌, ◌≤◌, List, ◌++◌, length, take, drop, sym, ap, ◌∙◌, arith, length-drop}
use Rattle.std.proofs.lemmas.List.{drop-take, length-take, take-take, take_at, drop_at}

-- a slice between two places
pub slice-between : (from end : ℕ) (octets : List ℕ) → from ≤ end → take (end - from) (drop from octets) ≡ drop from (take end octets)
slice-between from end octets order =
    let whole : from + (end - from) ≡ end = omega arith in
    sym (drop-take from (end - from) octets) ∙ ap (λ n. drop from (take n octets)) whole

pub length-between : (from end : ℕ) (octets : List ℕ) → from ≤ end → end ≤ length octets → length (take (end - from) (drop from octets)) ≡ end - from
length-between from end octets order within =
    omega (arith, length-take (end - from) (drop from octets), length-drop from octets)

-- a header and a text behind it, which is enciphered then
pub sealed-whole : (from end : ℕ) (one two three header text : List ℕ) (sealing : List ℕ → List ℕ)
    → take from one ≡ header → from ≤ length one → take end two ≡ take from one ++ text → from ≤ end
    → take end three ≡ take from two ++ sealing (drop from (take end two))
    → take end three ≡ header ++ sealing text
sealed-whole from end one two three header text sealing begun long written order sealed =
    let size : length (take from one) ≡ from = omega (arith, length-take from one) in
    let front : take from two ≡ take from one =
    sym (take-take from end two order) ∙ ap (take from) written ∙ take_at (take from one) text from size in
    let behind : drop from (take end two) ≡ text = ap (drop from) written ∙ drop_at (take from one) text from size in
    sealed ∙ (λ i. (front ∙ begun) i ++ sealing (behind i))
