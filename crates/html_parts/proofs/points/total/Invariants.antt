-- the sum so far
use Rattle.std.proofs.Common.{◌≡◌, take}
use Rattle.html_parts.specs.Chart.{total_of}
use Rattle.html_parts.proofs.points.total.Given as goal

abbrev pub invariant-loop-point : goal.invariant-loop-point
invariant-loop-point l = l.total ≡ total_of (take l.point-index l.points)
