-- What `==` says of request words.
use Rattle.std.proofs.Common.{◌≡◌, List, Bool, nat_eq, arith}
use Rattle.std.specs.Bool.{Decides}
use Rattle.std.specs.Cmp.Lexicographic.{pointwise}
use Rattle.std.specs.Ordering.{on, eq_of_both}
use Rattle.std.proofs.lemmas.Bool.Decides.{nat_tests}
use Rattle.std.proofs.lemmas.Slice.Eq.{slice_eq-Decides}
use Rattle.request_rules.specs.declared.word.AskWord.{AskWord}

abbrev pub word_eq : AskWord → AskWord → Bool
word_eq = eq_of_both (on (λ w. w.first) nat_eq) (on (λ w. w.second) nat_eq)

word_decides : (a b : AskWord) → Decides (word_eq a b) (a ≡ b)
word_decides a b = grind (arith, nat_tests)

pub words_decide : (xs ys : List AskWord) (r : Bool) → r ≡ pointwise word_eq xs ys → Decides r (xs ≡ ys)
words_decide xs ys r e = slice_eq-Decides word_decides xs ys r e
