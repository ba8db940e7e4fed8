use Rattle.std.proofs.Common.{◌≡◌, [], replicate}
use Rattle.rist_world.proofs.tally.Tally.with.Given as goal

abbrev pub invariant-loop-made : goal.invariant-loop-made
invariant-loop-made l = l.came.items ≡ replicate l.made []
