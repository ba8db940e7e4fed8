use Rattle.std.proofs.Common.{rules}
use Rattle.made_script.proofs.DrawLemmas.{way_more}
use Rattle.made_script.proofs.draws.Draws.draw_way.Goals as goal

pub loop-link-preserved : goal.loop-link-preserved
loop-link-preserved c = way_more c.args.self.now c.loop-link.self c.draw_link.new.self c.args.way c.args.held.now c.loop-link.link c.loop-link.invariant (search rules)
