-- One point more.
use Rattle.html_parts.proofs.ChartLemmas.{greatest_more}
use Rattle.html_parts.proofs.points.greatest.Goals as goal

pub loop-point-preserved : goal.loop-point-preserved
loop-point-preserved c = greatest_more c.args.points.now c.loop-point.point-index c.loop-point.greatest c.max-greatest.result c.loop-point-test.true c.loop-point.invariant c.max-greatest.ensures
