-- The buckets are as wide as the scale says.
use Rattle.std.proofs.Common.{List}
use Rattle.time_series.specs.Points.{Mark}
use Rattle.time_series.specs.Inside.Rising.{ArePeaks}
use Rattle.std.proofs.Common.{◌≡◌, length}
use Rattle.time_series.proofs.peaks.widen_peaks.Given as goal

abbrev pub invariant-loop : goal.invariant-loop
invariant-loop l = record {
  room : length l.points ≡ length l.initial.points;
  peaks : (marks : List Mark) → ArePeaks l.from marks l.initial.points → ArePeaks l.counter marks l.points;
}
