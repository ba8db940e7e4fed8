-- Words, one after another.
use Rattle.std.proofs.Common.{◌≡◌, ◌∙◌, ◌<◌, ◌+◌, ◌-◌, ℕ, List, [], ◌∷◌, ◌==◌, if◌then◌else◌, sym, ap, arith, suc, zero, Some}
use Rattle.made_script.specs.Words.{DrawnState, word_of, words_from, words_left}

-- the first of those that are left
first_left : (number filling at left : ℕ) → 0 < left → words_from number filling at left ≡ word_of number filling at ∷ words_from number filling (at + 1) (left - 1)
first_left number filling at zero some = absurd (omega arith)
first_left number filling at (suc left) some =
    let rest : left ≡ suc left - 1 = omega arith in
    ap (λ n. word_of number filling at ∷ words_from number filling (at + 1) n) rest

-- a word was taken
pub one_less : (drawn : DrawnState) (word : ℕ) → drawn.faults ≡ 0 → 0 < drawn.left → word ≡ word_of drawn.number drawn.filling drawn.at
    → Some (words_left drawn) ≡ Some (word ∷ words_left (record drawn { at = drawn.at + 1; left = drawn.left - 1 }))
one_less drawn word sound some is =
    let rest = words_from drawn.number drawn.filling (drawn.at + 1) (drawn.left - 1) in
    let pick = λ (faults : ℕ) (words : List ℕ). if faults == 0 then words else [] in
    ap Some (ap (λ n. pick n (words_from drawn.number drawn.filling drawn.at drawn.left)) sound ∙ first_left drawn.number drawn.filling drawn.at drawn.left some
    ∙ ap (λ w. w ∷ rest) (sym is) ∙ ap (λ n. word ∷ pick n rest) (sym sound))
