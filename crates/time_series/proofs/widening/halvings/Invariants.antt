-- So many halvings were made, and the rest is to be made of what is left.
use Rattle.std.proofs.Common.{◌≡◌, ◌+◌, ◌-◌}
use Rattle.time_series.specs.Points.{halvings_within}
use Rattle.time_series.proofs.widening.halvings.Given as goal

abbrev pub invariant-loop-count : goal.invariant-loop-count
invariant-loop-count l = halvings_within 52 l.second ≡ l.count + halvings_within (52 - l.count) l.left
