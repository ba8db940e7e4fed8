-- The workers that are in their list again, and the parts that are left.
use Rattle.std.proofs.Common.{◌≡◌, ◌≤◌, ◌+◌, ◌++◌, List, length, map, reverse}
use Rattle.std.specs.Prelude.{vec_capacity}
use Rattle.rist_desk.specs.declared.worker.Worker.{Worker}
use Rattle.rist_gateway.specs.declared.either_worker.EitherWorker.{EitherWorker}
use Rattle.rist_gateway.specs.Inside.Sides.{receiving_part}
use Rattle.rist_gateway.proofs.GatherLemmas.{Scattered}
use Rattle.rist_gateway.proofs.sides.scatter.Given as goal

abbrev pub invariant-loop-left : goal.invariant-loop-left
invariant-loop-left g l = record {
  within : l.left ≤ l.count;
  room : l.count ≤ vec_capacity l.workers;
  scattered : (ws : List (Worker g.row.L.Denot g.row.C.Denot g.row.U.Denot)) (rest : List (EitherWorker g.row.L.Denot g.row.C.Denot g.row.U.Denot g.row.D.Denot g.row.P.Denot))
      → l.initial.parts.items ≡ reverse (map receiving_part ws ++ rest) → length ws ≡ l.count
      → (length l.workers.items + l.left ≡ l.count) × Scattered ws l.workers.items rest l.parts.items;
}

abbrev pub decreases-loop-left : goal.decreases-loop-left
decreases-loop-left g l = l.left
