use Rattle.std.proofs.Common.{◌≡◌, ◌++◌, take}
use Rattle.rist_world.specs.Script.{carries_on}
use Rattle.rist_world.proofs.made.push_link.Given as goal

abbrev pub invariant-loop-due : goal.invariant-loop-due
invariant-loop-due l = l.moves.items ≡ l.fn.moves.items ++ carries_on l.fn.way l.fn.link l.fn.slot (take l.due-index l.fn.dues)
