use Rattle.std.proofs.Common.{◌≡◌, ◌++◌}
use Rattle.rist_world.specs.Script.{ticks}
use Rattle.rist_world.proofs.made.push_ticks.Given as goal

abbrev pub invariant-loop-link : goal.invariant-loop-link
invariant-loop-link l = l.moves.items ≡ l.fn.moves.items ++ ticks l.link l.fn.slot
