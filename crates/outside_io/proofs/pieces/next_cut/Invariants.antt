use Rattle.std.proofs.Common.{length, ◌-◌, ◌≤◌}
use Rattle.outside_io.specs.Memory.{IsNextCut}
use Rattle.outside_io.proofs.pieces.next_cut.Given as goal

abbrev pub invariant-loop-i : goal.invariant-loop-i
invariant-loop-i l = record { counted : l.i ≤ length l.cuts; next : IsNextCut l.cuts l.i l.at l.end l.next }

abbrev pub decreases-loop-i : goal.decreases-loop-i
decreases-loop-i l = length l.cuts - l.i
