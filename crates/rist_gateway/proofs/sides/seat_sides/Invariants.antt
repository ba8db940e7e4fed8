-- The clocks and passes that are left, and the side workers that have the others.
use Rattle.std.proofs.Common.{◌≡◌, ◌≤◌, ◌+◌, ◌++◌, List, length}
use Rattle.std.specs.Prelude.{vec_capacity}
use Rattle.rist_gateway.specs.Inside.Sides.{seated_sides, sending_parts}
use Rattle.rist_gateway.proofs.sides.seat_sides.Given as goal

abbrev pub invariant-loop-clock : goal.invariant-loop-clock
invariant-loop-clock g l = record {
  few : length l.clocks.items ≤ 16;
  many : length l.clocks.items ≤ length l.passes.items;
  room : length l.parts.items + length l.clocks.items ≤ vec_capacity l.parts;
  behind : List g.row.C.Denot;
  given : List g.row.P.Denot;
  same : length given ≡ length behind;
  clocks : l.clocks.items ++ behind ≡ l.initial.clocks.items;
  passes : l.passes.items ++ given ≡ l.initial.passes.items;
  sides : l.parts.items ≡ sending_parts (seated_sides (length l.clocks.items) behind given);
  clocks_cap : vec_capacity l.clocks ≡ vec_capacity l.initial.clocks;
  passes_cap : vec_capacity l.passes ≡ vec_capacity l.initial.passes;
  parts_cap : vec_capacity l.initial.parts ≤ vec_capacity l.parts;
}

abbrev pub decreases-loop-clock : goal.decreases-loop-clock
decreases-loop-clock g l = length l.clocks.items
