-- One point more.
use Rattle.std.proofs.Common.{take, arith}
use Rattle.html_parts.proofs.ChartLemmas.{points_more}
use Rattle.html_parts.proofs.chart.put_points.Goals as goal

pub loop-place-preserved : goal.loop-place-preserved
loop-place-preserved c = record {
  octets = points_more c.args.points.now c.loop-place.place (take c.args.at c.args.out.now) (take c.loop-place.end c.loop-place.out) (take c.put_point-end.result c.put_point-end.new.out) c.loop-place-test.true c.loop-place.invariant.octets c.put_point-end.ensures.octets;
  within = omega (arith, c.put_point-end.ensures.within, c.loop-place.invariant.within);
}
