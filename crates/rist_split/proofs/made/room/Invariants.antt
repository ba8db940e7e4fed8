-- there is memory for no more than was asked for
use Rattle.std.proofs.Common.{◌≤◌, ◌-◌, vec_len}
use Rattle.rist_split.proofs.made.room.Given as goal

abbrev pub invariant-loop-came : goal.invariant-loop-came
invariant-loop-came l = vec_len l.came ≤ l.count

abbrev pub decreases-loop-came : goal.decreases-loop-came
decreases-loop-came l = l.count - vec_len l.came
