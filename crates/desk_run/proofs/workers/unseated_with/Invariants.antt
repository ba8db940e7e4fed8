-- the parts of the workers that are left, and those that are in the lists again
use Rattle.std.proofs.Common.{◌≡◌, ◌≤◌, ◌+◌, ◌++◌, length, map, reverse}
use Rattle.std.specs.Prelude.{vec_capacity}
use Rattle.desk_run.specs.Workers.{link_of, clock_of, trace_of}
use Rattle.desk_run.proofs.workers.unseated_with.Given as goal

abbrev pub invariant-loop-worker : goal.invariant-loop-worker
invariant-loop-worker g l =
    (length l.links.items + length l.workers.items ≤ vec_capacity l.links)
    × (length l.clocks.items + length l.workers.items ≤ vec_capacity l.clocks)
    × (length l.own.items + length l.workers.items ≤ vec_capacity l.own)
    × (map link_of l.workers.items ++ reverse l.links.items ≡ map link_of l.initial.workers.items)
    × (map clock_of l.workers.items ++ reverse l.clocks.items ≡ map clock_of l.initial.workers.items)
    × (map trace_of l.workers.items ++ reverse l.own.items ≡ map trace_of l.initial.workers.items)
    × (vec_capacity l.initial.links ≤ vec_capacity l.links)
    × (vec_capacity l.initial.clocks ≤ vec_capacity l.clocks)
    × (vec_capacity l.initial.own ≤ vec_capacity l.own)

abbrev pub decreases-loop-worker : goal.decreases-loop-worker
decreases-loop-worker g l = goal.left-loop-worker g l
