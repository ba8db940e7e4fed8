use Rattle.std.proofs.Common.{◌∙◌}
use Rattle.rist_world.specs.Counted.{lost_at, resent_at, count_on}
use Rattle.rist_world.proofs.TallyLemmas.{added_more}
use Rattle.rist_world.proofs.counts.count_all.Goals as goal

pub loop-link-preserved : goal.loop-link-preserved
loop-link-preserved c = record {
  lost = c.saturating_add-lost.ensures ∙ added_more (count_on c.args.world.now (lost_at c.args.world.now)) c.loop-link.link c.loop-link.lost _ c.loop-link.invariant.lost c.count_on-more_lost.ensures.lost;
  resent = c.saturating_add-resent.ensures ∙ added_more (count_on c.args.world.now (resent_at c.args.world.now)) c.loop-link.link c.loop-link.resent _ c.loop-link.invariant.resent c.count_on-more_lost.ensures.resent;
}
