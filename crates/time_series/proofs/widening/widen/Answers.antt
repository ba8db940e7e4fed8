-- Each doubling joins the sums of the one before.
use Rattle.std.proofs.Common.{arith}
use Rattle.time_series.proofs.widening.widen.Goals as goal

pub loop-preserved : goal.loop-preserved
loop-preserved c = record {
  room = omega arith;
  sums = λ marks are. c.halve.ensures.sums c.loop.counter marks (c.loop.invariant.sums marks are);
}
