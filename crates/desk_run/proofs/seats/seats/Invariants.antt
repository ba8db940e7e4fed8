-- those so far are seats of the session
use Rattle.std.proofs.Common.{◌≤◌, ◌-◌, length}
use Rattle.std.specs.Prelude.{Some, None, if◌then◌else◌}
use Rattle.std.specs.List.{All}
use Rattle.desk_run.specs.Setup.{IsSeat}
use Rattle.desk_run.proofs.seats.seats.Given as goal

abbrev pub invariant-loop-alloc : goal.invariant-loop-alloc
invariant-loop-alloc g l =
    (length l.seats.items ≤ l.count)
    × All (IsSeat g.U.Trace.list g.U.Trace.limit l.session (if g.U.MadeTrace.told then Some l.room else None)) l.seats.items

abbrev pub decreases-loop-alloc : goal.decreases-loop-alloc
decreases-loop-alloc g l = l.count - length l.seats.items
