-- There are two flows.
use Rattle.std.proofs.Common.{◌≡◌, length}
use Rattle.rist_fan.specs.Fan.{flows_in}
use Rattle.test_worlds.proofs.flows.stepped.Given as goal

abbrev pub invariant-loop-row : goal.invariant-loop-row
invariant-loop-row l = length (flows_in l.fan) ≡ 2
