-- The first link that differs, or none.
use Rattle.std.proofs.Common.{◌≡◌, ◌≤◌, ℕ, List, length, map, refl, subst, arith}
use Rattle.std.proofs.lemmas.List.{length-map}
use Rattle.rist_desk.specs.declared.step.Step.{Step}
use Rattle.rist_compare.specs.Tears.{of, own_of, IsTear, IsFirstTear}
use Rattle.rist_compare.proofs.FirstLemmas.{none_agrees, none_torn, some_differs, some_first, first_at, on_all}
use Rattle.rist_compare.proofs.comparing.compare.Goals as goal

first : (g : _) (c : goal.In-Some g) → IsFirstTear c.args.kept.now (map g.W.OwnSteps.own c.args.workers.now) c.in-Some.tear
first g c =
    let T : List Step → Type 0 = λ own. IsTear (of c.loop-link.link c.args.kept.now) own c.in-Some.tear in
    let at = c.in-Some.ensures.some in
    first_at c.args.kept.now (map g.W.OwnSteps.own c.args.workers.now) c.loop-link.link c.in-Some.tear (at.0, subst T c.own_of.ensures.value at.1) c.loop-link.invariant

on_each : (g : _) (c : goal.After-loop-link g) (link : ℕ) → of link c.args.kept.now ≡ own_of link (map g.W.OwnSteps.own c.args.workers.now)
on_each g c =
    let own = map g.W.OwnSteps.own c.args.workers.now in
    let count = c.link_count-link-end in
    let workers : length own ≤ count.result = omega (arith, length-map c.args.workers.now g.W.OwnSteps.own, count.ensures.workers) in
    on_all c.args.kept.now own count.result workers count.ensures.steps (λ k lt. c.loop-link.invariant k (omega (arith, lt, c.loop-link-test.false)))

pub returns-in-Some-clause-none : goal.returns-in-Some-clause-none
returns-in-Some-clause-none g c =
    some_differs c.args.kept.now (map g.W.OwnSteps.own c.args.workers.now) _ c.in-Some.tear refl (first g c)

pub returns-in-Some-clause-some : goal.returns-in-Some-clause-some
returns-in-Some-clause-some g c =
    some_first c.args.kept.now (map g.W.OwnSteps.own c.args.workers.now) _ c.in-Some.tear refl (first g c)

pub returns-clause-none : goal.returns-clause-none
returns-clause-none g c = none_agrees c.args.kept.now (map g.W.OwnSteps.own c.args.workers.now) _ refl (on_each g c)

pub returns-clause-some : goal.returns-clause-some
returns-clause-some g c = none_torn c.args.kept.now (map g.W.OwnSteps.own c.args.workers.now) _ refl (on_each g c)
