use Rattle.turn_lock.specs.Inside.Dealing.{Gathers}
use Rattle.turn_lock.proofs.lock.TurnLock.gather.Given as goal

abbrev pub invariant-loop-pass : goal.invariant-loop-pass
invariant-loop-pass g l = Gathers l.self.table.shared.table_id l.fn.passes.items l.passes.items l.seat

abbrev pub decreases-loop-pass : goal.decreases-loop-pass
decreases-loop-pass g l = goal.left-loop-pass g l
