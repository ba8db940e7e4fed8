use Rattle.std.proofs.Common.{rules, arith, ◌∙◌, ◌-◌, Some, ap, sym}
use Rattle.link_words.specs.Parameters.{kept_in}
use Rattle.link_words.proofs.ParameterLemmas.{last_kept, last_part}
use Rattle.link_words.proofs.parameters.kept_in.Goals as goal

pub loop-init : goal.loop-init
loop-init c = (
  search rules,
  omega arith,
  ap (λ k. kept_in 16 k (Some c.args.text.now)) (sym c.new-kept.ensures.bytes),
)

pub returns-in-None-clause-ok : goal.returns-in-None-clause-ok
returns-in-None-clause-ok c =
    sym (c.loop.invariant.2
    ∙ last_kept (16 - c.loop.counter) _ _ _ _ (omega (arith, c.loop-test.true)) (last_part c.first_part.result _ c.first_part.ensures c.in-None.is) c.in_ok-keep.ensures.ok)
