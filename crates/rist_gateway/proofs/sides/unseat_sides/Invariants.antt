-- The side workers that are left, and the clocks and passes of those before.
use Rattle.std.proofs.Common.{◌≡◌, ◌≤◌, ◌+◌, List, length}
use Rattle.std.specs.Prelude.{vec_capacity}
use Rattle.rist_gateway.specs.declared.side_worker.SideWorker.{SideWorker}
use Rattle.rist_gateway.specs.Workers.{side_clock}
use Rattle.rist_gateway.specs.Inside.Sides.{sending_parts, side_pass}
use Rattle.rist_gateway.proofs.LendLemmas.{Returned}
use Rattle.rist_gateway.proofs.sides.unseat_sides.Given as goal

abbrev pub invariant-loop-part : goal.invariant-loop-part
invariant-loop-part g l = record {
  clock_room : length l.clocks.items + length l.parts.items ≤ vec_capacity l.clocks;
  pass_room : length l.passes.items + length l.parts.items ≤ vec_capacity l.passes;
  clocks_more : vec_capacity l.initial.clocks ≤ vec_capacity l.clocks;
  passes_more : vec_capacity l.initial.passes ≤ vec_capacity l.passes;
  clocks : (sides : List (SideWorker g.row.C.Denot g.row.P.Denot)) → l.initial.parts.items ≡ sending_parts sides → Returned side_clock l.parts.items l.initial.clocks.items l.clocks.items sides;
  passes : (sides : List (SideWorker g.row.C.Denot g.row.P.Denot)) → l.initial.parts.items ≡ sending_parts sides → Returned side_pass l.parts.items l.initial.passes.items l.passes.items sides;
}

abbrev pub decreases-loop-part : goal.decreases-loop-part
decreases-loop-part g l = length l.parts.items
