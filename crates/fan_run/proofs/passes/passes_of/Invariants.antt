-- The passes of the workers that are left, and those that are in the list again.
use Rattle.std.proofs.Common.{◌≡◌, ◌≤◌, ◌+◌, ◌++◌, length, map, reverse}
use Rattle.std.specs.Prelude.{vec_capacity}
use Rattle.fan_run.specs.Passes.{pass_of}
use Rattle.fan_run.proofs.passes.passes_of.Given as goal

abbrev pub invariant-loop-one : goal.invariant-loop-one
invariant-loop-one g l = record {
  room : length l.passes.items + length l.own.items ≤ vec_capacity l.passes;
  passes_are : map pass_of l.own.items ++ reverse l.passes.items ≡ map pass_of l.initial.own.items;
}

abbrev pub decreases-loop-one : goal.decreases-loop-one
decreases-loop-one g l = goal.left-loop-one g l
