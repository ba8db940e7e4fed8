use Rattle.std.proofs.Common.{rules, arith, ◌≡◌, ◌∙◌, ◌+◌, ◌-◌, sym, ap}
use Rattle.rist_words.specs.Links.{weights_in}
use Rattle.rist_words.proofs.LinkLemmas.{weights_with, next_weight, no_split, no_weight, split_parts, split_none}
use Rattle.rist_words.proofs.links.weights_in.Goals as goal

pub returns-in_default-clause-usage : goal.returns-in_default-clause-usage
returns-in_default-clause-usage c =
    λ _. c.loop.invariant.3 ∙ no_split _ (c.args.links + 1 - c.loop.counter) _ (omega (arith, c.loop-test.true)) (split_none _ _ c.split_at.ensures c.in_default.is)

pub returns-in-None-clause-usage : goal.returns-in-None-clause-usage
returns-in-None-clause-usage c =
    λ _. c.loop.invariant.3 ∙ no_weight _ (c.args.links + 1 - c.loop.counter) _ _ _ (omega (arith, c.loop-test.true)) (split_parts _ _ _ c.split_at.ensures c.in-Some.is)
    (sym c.number_in.ensures.value ∙ c.in-None.is)

pub loop-preserved : goal.loop-preserved
loop-preserved c =
    let less : c.args.links + 1 - c.loop.counter - 1 ≡ c.args.links + 1 - (c.loop.counter + 1) = omega arith in (
      search rules,
      omega arith,
      omega (arith, c.loop-test.true),
      c.loop.invariant.3
          ∙ next_weight _ (c.args.links + 1 - c.loop.counter) _ _ _ _ (omega (arith, c.loop-test.true)) (split_parts _ _ _ c.split_at.ensures c.in-Some.is)
          (sym c.number_in.ensures.value ∙ c.in-Some-number_in.is)
          ∙ ap (λ ws. weights_with ws (weights_in (c.args.links + 1 - c.loop.counter - 1) c.in-Some.back.now)) (sym c.in_ok-push-in-Some-number_in.ensures.ok)
          ∙ ap (λ k. weights_with c.push.new.list.items (weights_in k c.in-Some.back.now)) less,
    )
