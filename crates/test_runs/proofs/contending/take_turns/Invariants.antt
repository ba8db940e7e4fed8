-- The pass is still one of the lock's.
use Rattle.turn_lock.specs.Passes.{IsPassOf}
use Rattle.test_runs.proofs.contending.take_turns.Given as goal

abbrev pub invariant-loop-turn : goal.invariant-loop-turn
invariant-loop-turn g l = IsPassOf l.lock l.pass
