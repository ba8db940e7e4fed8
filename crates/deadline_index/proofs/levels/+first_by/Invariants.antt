-- none was due so far; a search goes on a level higher
use Rattle.std.proofs.Common.{◌-◌, ◌≤◌}
use Rattle.deadline_index.specs.Inside.Levels.{IsNoneIn}
use Rattle.deadline_index.proofs.levels.+first_by.Given as goal

abbrev pub decreases-first_by : goal.decreases-first_by
decreases-first_by l = l.levels

abbrev pub invariant-loop-next : goal.invariant-loop-next
invariant-loop-next l = (l.start ≤ l.next) × IsNoneIn l.all l.at l.start l.next l.tick

abbrev pub decreases-loop-next : goal.decreases-loop-next
decreases-loop-next l = l.len - l.next
