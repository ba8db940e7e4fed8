-- the points so far
use Rattle.std.proofs.Common.{◌≡◌, ◌≤◌, ◌+◌, ◌*◌, take}
use Rattle.html_parts.specs.Chart.{with_points}
use Rattle.html_parts.proofs.chart.put_points.Given as goal

abbrev pub invariant-loop-place : goal.invariant-loop-place
invariant-loop-place l = record {
  octets : take l.end l.out ≡ with_points (take l.at l.fn.out) 0 (take l.place l.points);
  within : l.end ≤ l.at + 42 * l.place;
}
