-- the total so far
use Rattle.std.proofs.Common.{◌≡◌, ◌≤◌, ◌*◌, take}
use Rattle.std.specs.List.{sum}
use Rattle.bond_links.proofs.weights.total_of.Given as goal

abbrev pub invariant-loop-weight : goal.invariant-loop-weight
invariant-loop-weight l = (l.total ≡ sum (take l.weight-index l.weights)) × (l.weight-index ≤ l.total) × (l.total ≤ 255 * l.weight-index)
