-- the parts that are left, and those of the workers behind them
use Rattle.std.proofs.Common.{◌≡◌, ◌≤◌, ◌+◌, ◌++◌, length, map, reverse}
use Rattle.std.specs.Prelude.{vec_capacity}
use Rattle.std.specs.List.{All}
use Rattle.desk_run.specs.Workers.{link_of, clock_of, seat_of, is_unended}
use Rattle.desk_run.proofs.workers.seated.Given as goal

abbrev pub invariant-loop-link : goal.invariant-loop-link
invariant-loop-link g l =
    (length l.clocks.items ≡ length l.links.items)
    × (length l.seats.items ≡ length l.links.items)
    × (length l.workers.items + length l.links.items ≤ vec_capacity l.workers)
    × (l.links.items ++ map link_of (reverse l.workers.items) ≡ l.initial.links.items)
    × (l.clocks.items ++ map clock_of (reverse l.workers.items) ≡ l.initial.clocks.items)
    × (l.seats.items ++ map seat_of (reverse l.workers.items) ≡ l.initial.seats.items)
    × All is_unended l.workers.items
    × (vec_capacity l.links ≡ vec_capacity l.initial.links)
    × (vec_capacity l.clocks ≡ vec_capacity l.initial.clocks)

abbrev pub decreases-loop-link : goal.decreases-loop-link
decreases-loop-link g l = length l.links.items
