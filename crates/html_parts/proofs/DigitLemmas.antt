-- One digit more.
use Rattle.std.proofs.Common.{◌≡◌, ℕ, ◌+◌, ◌-◌, ◌<◌, ◌≤◌, List, [], ◌∷◌, ◌++◌, length, drop, get_or, sym, ap, ◌∙◌, arith}
use Rattle.std.proofs.lemmas.List.{drop_all, drop_more, length-drop}
use Rattle.html_parts.specs.Numbers.{comma_before, with_digits}

pub digits_more : (digits : List ℕ) (i following : ℕ) (before after text : List ℕ) → i < length digits → following ≡ length digits - i - 1
    → with_digits before (drop i digits) ≡ with_digits text digits → after ≡ (before ++ get_or digits i 0 ∷ []) ++ comma_before following
    → with_digits after (drop (i + 1) digits) ≡ with_digits text digits
digits_more digits i following before after text low count was is =
    let rest : length (drop (i + 1) digits) ≡ following = length-drop (i + 1) digits ∙ omega (arith, low, count) in
    ap (λ (t : List ℕ). with_digits t (drop (i + 1) digits)) is
    ∙ ap (λ (n : ℕ). with_digits ((before ++ get_or digits i 0 ∷ []) ++ comma_before n) (drop (i + 1) digits)) (sym rest)
    ∙ sym (ap (with_digits before) (drop_more digits i 0 low)) ∙ was

pub digits_done : (digits : List ℕ) (i : ℕ) (before text : List ℕ) → length digits ≤ i → with_digits before (drop i digits) ≡ with_digits text digits → before ≡ with_digits text digits
digits_done digits i before text past was = sym (ap (with_digits before) (drop_all i digits past)) ∙ was
