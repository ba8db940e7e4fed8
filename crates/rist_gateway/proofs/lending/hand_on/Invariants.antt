-- What is left, and what was handed on.
use Rattle.std.proofs.Common.{◌≡◌, ◌≤◌, ◌+◌, ◌++◌, length, reverse}
use Rattle.std.specs.Prelude.{vec_capacity}
use Rattle.rist_gateway.proofs.lending.hand_on.Given as goal

abbrev pub invariant-loop-left : goal.invariant-loop-left
invariant-loop-left g l = record {
  within : l.left ≤ length l.all.items;
  count : length l.all.items + l.count ≡ length l.initial.all.items + l.left;
  room : length l.onward.items + l.left ≤ vec_capacity l.onward;
  all : l.all.items ++ reverse l.onward.items ≡ l.initial.all.items;
  cap : vec_capacity l.all ≡ vec_capacity l.initial.all;
}

abbrev pub decreases-loop-left : goal.decreases-loop-left
decreases-loop-left g l = l.left
