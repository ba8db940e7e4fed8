-- no more places than there are to be
use Rattle.std.proofs.Common.{◌≤◌, ◌-◌, length}
use Rattle.fan_run.proofs.running.room.Given as goal

abbrev pub invariant-loop-came : goal.invariant-loop-came
invariant-loop-came l = length l.came.items ≤ l.places

abbrev pub decreases-loop-came : goal.decreases-loop-came
decreases-loop-came l = l.places - length l.came.items
