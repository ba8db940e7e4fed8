-- The step is the next one of the link, or it is not.
use Rattle.std.proofs.Common.{◌≡◌, ◌++◌, List, Some, ap, sym, ◌∙◌, arith, take, slice_get}
use Rattle.std.proofs.lemmas.Option.{slice_get_within}
use Rattle.rist_desk.specs.declared.step.Step.{Step}
use Rattle.rist_compare.proofs.TearLemmas.{take_one, of_one}
use Rattle.rist_compare.proofs.comparing.past.Goals as goal

pub returns-then-is_at-clause-ok : goal.returns-then-is_at-clause-ok
returns-then-is_at-clause-ok c =
    let a = c.args in
    let e : slice_get a.own.now a.place ≡ Some a.step.now = c.is_at.ensures.value.0 c.if-is_at.true in
    let within = slice_get_within a.own.now a.place a.step.now e in
    (omega (arith, within), take_one a.own.now a.place a.step.now e ∙ ap (λ (x : List Step). take a.place a.own.now ++ x) (sym (of_one a.link a.step.now c.if-step-link.false)))

pub returns-clause-err : goal.returns-clause-err
returns-clause-err c =
    record {
      link_is = c.if-step-link.false;
      tear_is = cc (c.copy.ensures.value, c.step_at.ensures.value);
      differ = λ e. cc (c.if-is_at.false, c.is_at.ensures.value.1 (sym e));
    }
