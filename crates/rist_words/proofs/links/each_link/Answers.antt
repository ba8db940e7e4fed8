use Rattle.std.proofs.Common.{◌∙◌, ◌+◌, arith, sym, ap}
use Rattle.std.proofs.lemmas.Grind.{common_steps}
use Rattle.rist_words.proofs.LinkLemmas.{links_from, links_with, next_link, no_link}
use Rattle.rist_words.proofs.links.each_link.Goals as goal

pub returns-in-None-clause-usage : goal.returns-in-None-clause-usage
returns-in-None-clause-usage c =
    λ _. c.loop-text.invariant.1 ∙ no_link _ _ _ _ _ _ c.loop-text-test.true (sym c.link_of.ensures ∙ c.in-None.is)

pub loop-text-preserved : goal.loop-text-preserved
loop-text-preserved c = (
  grind (arith, common_steps, c.in_ok-push-in-Some.ensures.ok, c.loop-text.invariant.0),
  c.loop-text.invariant.1 ∙ next_link _ _ _ _ _ _ _ c.loop-text-test.true (sym c.link_of.ensures ∙ c.in-Some.is)
      ∙ ap (λ ls. links_with ls (links_from c.args.role c.args.profile c.args.texts.now (c.loop-text.text-index + 1))) (sym c.in_ok-push-in-Some.ensures.ok),
)
