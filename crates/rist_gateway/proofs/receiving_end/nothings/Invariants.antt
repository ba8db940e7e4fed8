-- No more than are wanted.
use Rattle.std.proofs.Common.{◌≤◌, ◌-◌, length}
use Rattle.rist_gateway.proofs.receiving_end.nothings.Given as goal

abbrev pub invariant-loop-all : goal.invariant-loop-all
invariant-loop-all l = length l.all.items ≤ l.count

abbrev pub decreases-loop-all : goal.decreases-loop-all
decreases-loop-all l = l.count - length l.all.items
