use Rattle.std.proofs.Common.{◌≡◌, ◌++◌}
use Rattle.rist_world.specs.Script.{carries}
use Rattle.rist_world.proofs.made.push_way.Given as goal

abbrev pub invariant-loop-link : goal.invariant-loop-link
invariant-loop-link l = l.moves.items ≡ l.fn.moves.items ++ carries l.fn.way l.link l.fn.draws.slot l.fn.draws.dues
