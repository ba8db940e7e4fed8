-- none was due so far
use Rattle.std.proofs.Common.{◌-◌, ◌≤◌}
use Rattle.deadline_index.specs.Inside.Levels.{IsNoneIn}
use Rattle.deadline_index.proofs.index.DeadlineIndex.first_by.Given as goal

abbrev pub invariant-loop-next : goal.invariant-loop-next
invariant-loop-next l = (l.start ≤ l.next) × IsNoneIn l.self 0 l.start l.next l.tick

abbrev pub decreases-loop-next : goal.decreases-loop-next
decreases-loop-next l = l.places - l.next
