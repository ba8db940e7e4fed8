-- it is the least so far
use Rattle.std.proofs.Common.{◌-◌, ◌≤◌}
use Rattle.deadline_index.specs.Inside.Levels.{IsLeastIn}
use Rattle.deadline_index.proofs.levels.least_in.Given as goal

abbrev pub invariant-loop-next : goal.invariant-loop-next
invariant-loop-next l = (l.from ≤ l.next) × IsLeastIn l.all l.at l.from l.next l.least

abbrev pub decreases-loop-next : goal.decreases-loop-next
decreases-loop-next l = l.end - l.next
