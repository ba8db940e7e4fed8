use Rattle.std.proofs.Common.{rules, subst, ◌≡◌, ◌+◌, ◌-◌, ◌∷◌, Some}
use Rattle.made_script.specs.Words.{DrawnState, words_left}
use Rattle.made_script.specs.contracts.words.Drawn.{the_view}
use Rattle.made_script.proofs.WordLemmas.{one_less}
use Rattle.made_script.proofs.words.DrawnEntropy.word.Goals as goal

pub invariant_of-self-2 : goal.invariant_of-self-2
invariant_of-self-2 c = (c.next_word.ensures.next _ _ _ c.self.invariant.0, search rules, λ failed. search (rules, c.self.invariant.2 failed))

pub returns-clause-ok : goal.returns-clause-ok
returns-clause-ok c =
    let before = the_view c.self.inside in
    let rest = words_left (record before { at = before.at + 1; left = before.left - 1 }) in
    subst (λ (d : DrawnState). Some (words_left d) ≡ Some (c.next_word.result ∷ rest)) c.self.view_is
    (one_less before c.next_word.result (search rules) (search rules) (c.next_word.ensures.value _ _ _ c.self.invariant.0))
