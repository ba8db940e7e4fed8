use Rattle.std.proofs.Common.{◌≡◌, [], replicate}
use Rattle.rist_world.proofs.world.no_marks.Given as goal

abbrev pub invariant-loop-made : goal.invariant-loop-made
invariant-loop-made l = l.media.items ≡ replicate l.made []
