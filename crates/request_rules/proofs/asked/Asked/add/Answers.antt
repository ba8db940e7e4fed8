-- The first word, the last word longer, or one more word.
use Rattle.std.proofs.Common.{length, take, sym, ap, subst, ◌∙◌, arith}
use Rattle.std.specs.Prelude.{nat_lt}
use Rattle.std.proofs.lemmas.List.{take_more_set}
use Rattle.request_rules.specs.Building.{word_of, with_last, with_number, takes, IsAboveLast}
use Rattle.request_rules.proofs.BuildingLemmas.{above_at, add_longer, takes_longer, add_new, takes_new}
use Rattle.request_rules.proofs.asked.Asked.add.Goals as goal

pub returns-then-self-eq0-clause-value : goal.returns-then-self-eq0-clause-value
returns-then-self-eq0-clause-value c =
    take_more_set c.self.inside.words 0 (word_of c.args.number) (omega (arith, c.self.invariant.1))
    ∙ ap (λ n. with_number c.args.kind 64 (take n c.self.inside.words) c.args.number) (sym c.if-self-eq0.true)
    ∙ ap (λ ws. with_number c.args.kind 64 ws c.args.number) c.self.view_is

pub extended-requires : goal.extended-requires
extended-requires c =
    above_at c.args.kind c.self.inside.words c.self.inside.count (word_of 0) c.args.number (omega (arith, c.if-self-eq0.false)) (omega (arith, c.self.invariant.0, c.self.invariant.1)) (subst (λ ws. IsAboveLast c.args.kind ws c.args.number) (sym c.self.view_is) c.requires.above)

pub returns-in-Some-clause-value : goal.returns-in-Some-clause-value
returns-in-Some-clause-value c =
    add_longer c.args.kind c.self.inside.words c.self.inside.count (word_of 0) c.in-Some.longer c.args.number (omega (arith, c.if-self-eq0.false)) c.self.invariant.0 (omega (arith, c.self.invariant.1)) (sym c.in-Some.is ∙ c.extended.ensures)
    ∙ ap (λ ws. with_number c.args.kind 64 ws c.args.number) c.self.view_is

pub returns-in-Some-clause-takes : goal.returns-in-Some-clause-takes
returns-in-Some-clause-takes c =
    takes_longer c.args.kind c.self.inside.words c.self.inside.count (word_of 0) c.in-Some.longer c.args.number (omega (arith, c.if-self-eq0.false)) c.self.invariant.0 (omega (arith, c.self.invariant.1)) (sym c.in-Some.is ∙ c.extended.ensures)
    ∙ ap (λ ws. takes c.args.kind 64 ws c.args.number) c.self.view_is

pub returns-in-None-clause-value : goal.returns-in-None-clause-value
returns-in-None-clause-value c =
    c.begin.ensures.value ∙ ap (λ ws. with_last ws c.args.number) (sym c.self.view_is)
    ∙ add_new c.args.kind c.self.inside.words c.self.inside.count (word_of 0) c.args.number (omega (arith, c.if-self-eq0.false)) c.self.invariant.0 (omega (arith, c.self.invariant.1)) (sym c.in-None.is ∙ c.extended.ensures)
    ∙ ap (λ ws. with_number c.args.kind 64 ws c.args.number) c.self.view_is

pub returns-in-None-clause-takes : goal.returns-in-None-clause-takes
returns-in-None-clause-takes c =
    c.begin.ensures.takes ∙ ap (λ ws. nat_lt (length ws) 64) (sym c.self.view_is)
    ∙ takes_new c.args.kind c.self.inside.words c.self.inside.count (word_of 0) c.args.number (omega (arith, c.if-self-eq0.false)) c.self.invariant.0 (omega (arith, c.self.invariant.1)) (sym c.in-None.is ∙ c.extended.ensures)
    ∙ ap (λ ws. takes c.args.kind 64 ws c.args.number) c.self.view_is
