-- The first step that is not the link's next one, or the end of the desk's.
use Rattle.std.proofs.Common.{◌<◌, length, refl, sym, ◌∙◌, ap, arith}
use Rattle.std.proofs.lemmas.Option.{slice_get_read}
use Rattle.std.proofs.lemmas.List.{take_all}
use Rattle.rist_compare.specs.Tears.{of}
use Rattle.rist_compare.proofs.TearLemmas.{tear_at, tear_behind}
use Rattle.rist_compare.proofs.comparing.tear_of.Goals as goal

pub returns-in-Err-clause-some : goal.returns-in-Err-clause-some
returns-in-Err-clause-some c =
    let i = c.loop-step.step-index in
    let here : i < length c.args.kept.now = c.loop-step-test.true in
    tear_at c.args.link c.args.kept.now c.args.own.now i c.loop-step.place c.step-item.result c.in-Err.tear (slice_get_read c.args.kept.now _ i c.step-item.result refl here c.step-item.is) c.loop-step.invariant.within c.loop-step.invariant.same c.in-Err.ensures.err

pub returns-in-Some-clause-some : goal.returns-in-Some-clause-some
returns-in-Some-clause-some c =
    let whole = take_all c.loop-step.step-index c.args.kept.now (omega arith) in
    (refl, tear_behind c.args.link c.args.kept.now c.args.own.now c.loop-step.place c.in-Some.next c.loop-step.invariant.within (sym (ap (of c.args.link) whole) ∙ c.loop-step.invariant.same) (sym c.in-Some.ensures.value))
