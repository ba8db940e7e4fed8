use Rattle.std.proofs.Common.{rules, arith, ◌≡◌, ◌∙◌, ◌+◌, ◌-◌, Some, ap}
use Rattle.rist_words.specs.Outs.{outs_in}
use Rattle.rist_words.proofs.OutLemmas.{last_out, last_part, next_out, out_is, outs_before, part_with_more, pushed, pushed_all}
use Rattle.rist_words.proofs.outs.outs_in.Goals as goal

pub returns-in-None-clause-ok : goal.returns-in-None-clause-ok
returns-in-None-clause-ok c =
    c.loop.invariant.2
    ∙ last_out _ _ (8 - c.loop.counter) _ _ _ _ (omega (arith, c.loop-test.true)) (last_part c.first_part.result _ c.first_part.ensures c.in-None.is) (out_is _ _ _ c.out_of.ensures c.in-Some.is)
    ∙ pushed_all _ _ _ _ _ _ c.in_ok-push.ensures.ok c.in_ok-push-2.ensures.ok

pub loop-preserved : goal.loop-preserved
loop-preserved c =
    let less : 8 - c.loop.counter - 1 ≡ 8 - (c.loop.counter + 1) = omega arith in (
      search rules,
      omega (arith, c.loop-test.true),
      c.loop.invariant.2
          ∙ next_out _ _ (8 - c.loop.counter) _ _ _ _ _ (omega (arith, c.loop-test.true)) (part_with_more c.first_part.result _ _ c.first_part.ensures c.in-Some-more.is)
          (out_is _ _ _ c.out_of.ensures c.in-Some.is)
          ∙ pushed _ _ _ _ _ _ c.in_ok-push.ensures.ok c.in_ok-push-2.ensures.ok _
          ∙ ap (λ k. outs_before c.push.new.list.items c.push-in-loop.new.list.items (outs_in k (Some c.in-Some-more.more.now))) less,
    )
