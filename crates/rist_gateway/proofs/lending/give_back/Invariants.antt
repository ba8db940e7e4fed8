-- Those that are left, and those that are back.
use Rattle.std.proofs.Common.{◌≡◌, ◌≤◌, ◌+◌, ◌++◌, length, reverse}
use Rattle.std.specs.Prelude.{vec_capacity}
use Rattle.rist_gateway.proofs.lending.give_back.Given as goal

abbrev pub invariant-loop-one : goal.invariant-loop-one
invariant-loop-one g l = record {
  room : length l.all.items + length l.onward.items ≤ vec_capacity l.all;
  links : l.all.items ++ reverse l.onward.items ≡ l.initial.all.items ++ reverse l.initial.onward.items;
  more : vec_capacity l.initial.all ≤ vec_capacity l.all;
}

abbrev pub decreases-loop-one : goal.decreases-loop-one
decreases-loop-one g l = length l.onward.items
