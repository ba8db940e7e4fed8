use Rattle.rist_world.proofs.RunLemmas.{Running}
use Rattle.rist_world.proofs.running.run.Given as goal

abbrev pub invariant-loop-made : goal.invariant-loop-made
invariant-loop-made g l = Running l.fn.world l.world (g.M.Mover.script l.fn.mover) (g.M.Mover.given l.fn.mover) (g.M.Mover.script l.mover) (g.M.Mover.given l.mover) l.moves.items l.made
