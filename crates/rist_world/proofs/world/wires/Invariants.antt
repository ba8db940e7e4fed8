use Rattle.std.proofs.Common.{◌≡◌, replicate}
use Rattle.rist_world.specs.World.{none}
use Rattle.rist_world.proofs.world.wires.Given as goal

abbrev pub invariant-loop-made : goal.invariant-loop-made
invariant-loop-made l = l.wires.items ≡ replicate l.made none
