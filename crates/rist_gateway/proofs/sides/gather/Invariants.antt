-- The workers that are left, and the parts of those that were moved.
use Rattle.std.proofs.Common.{◌≡◌, ◌≤◌, ◌+◌, ◌++◌, length, map, reverse}
use Rattle.std.specs.Prelude.{vec_capacity}
use Rattle.rist_gateway.specs.Inside.Sides.{receiving_part}
use Rattle.rist_gateway.proofs.sides.gather.Given as goal

abbrev pub invariant-loop-worker : goal.invariant-loop-worker
invariant-loop-worker g l = record {
  room : length l.workers.items + length l.parts.items ≤ vec_capacity l.parts;
  moved : l.parts.items ++ map receiving_part (reverse l.workers.items) ≡ l.initial.parts.items ++ map receiving_part (reverse l.initial.workers.items);
  workers_room : vec_capacity l.workers ≡ vec_capacity l.initial.workers;
  parts_room : vec_capacity l.initial.parts ≤ vec_capacity l.parts;
}

abbrev pub decreases-loop-worker : goal.decreases-loop-worker
decreases-loop-worker g l = length l.workers.items
