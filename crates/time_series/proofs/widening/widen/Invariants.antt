-- The buckets are as wide as the scale says.
use Rattle.std.proofs.Common.{List}
use Rattle.time_series.specs.Points.{Mark}
use Rattle.time_series.specs.Inside.Widening.{AreSums}
use Rattle.std.proofs.Common.{◌≡◌, length}
use Rattle.time_series.proofs.widening.widen.Given as goal

abbrev pub invariant-loop : goal.invariant-loop
invariant-loop l = record {
  room : length l.points ≡ length l.initial.points;
  sums : (marks : List Mark) → AreSums l.from marks l.initial.points → AreSums l.counter marks l.points;
}
