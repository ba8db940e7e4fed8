use Rattle.std.proofs.Common.{rules, ◌∙◌, ap}
use Rattle.rist_world.specs.Tally.{raised_if}
use Rattle.rist_world.specs.Counted.{lost_at, resent_at}
use Rattle.rist_world.proofs.TallyLemmas.{raised_more}
use Rattle.rist_world.proofs.counts.count_on.Goals as goal

pub loop-place-preserved : goal.loop-place-preserved
loop-place-preserved c = record {
  lost = c.raise_if.ensures.value ∙ ap (λ b. raised_if b c.loop-place.lost) (search rules) ∙ raised_more (lost_at c.args.world.now c.args.link) c.loop-place.place c.loop-place.lost c.loop-place.invariant.lost;
  resent = c.raise_if-in-loop-place.ensures.value ∙ ap (λ b. raised_if b c.loop-place.resent) (search rules) ∙ raised_more (resent_at c.args.world.now c.args.link) c.loop-place.place c.loop-place.resent c.loop-place.invariant.resent;
}
