use Rattle.rist_world.proofs.SoundLemmas.{AreSoundBelow}
use Rattle.rist_world.proofs.world.check_memory.Given as goal

abbrev pub invariant-loop-wire : goal.invariant-loop-wire
invariant-loop-wire l = AreSoundBelow l.wires l.wire-index
