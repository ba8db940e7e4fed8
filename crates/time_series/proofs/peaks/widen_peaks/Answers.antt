-- Each doubling takes the greater peaks of the one before.
use Rattle.std.proofs.Common.{arith}
use Rattle.time_series.proofs.peaks.widen_peaks.Goals as goal

pub loop-preserved : goal.loop-preserved
loop-preserved c = record {
  room = omega arith;
  peaks = λ marks are. c.halve_peaks.ensures.peaks c.loop.counter marks (c.loop.invariant.peaks marks are);
}
