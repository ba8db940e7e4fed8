-- the greatest so far
use Rattle.std.proofs.Common.{◌≡◌, take}
use Rattle.html_parts.specs.Chart.{greatest_of}
use Rattle.html_parts.proofs.points.greatest.Given as goal

abbrev pub invariant-loop-point : goal.invariant-loop-point
invariant-loop-point l = l.greatest ≡ greatest_of (take l.point-index l.points)
