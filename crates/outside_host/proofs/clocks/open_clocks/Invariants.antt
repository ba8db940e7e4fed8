-- a clock for each place so far
use Rattle.std.proofs.Common.{◌≡◌, ◌≤◌, ◌-◌, length}
use Rattle.std.specs.Prelude.{IsTrue}
use Rattle.outside_host.specs.Shelf.{ChangesTiming}
use Rattle.outside_host.specs.Links.{AreOut, HasStartedNone}
use Rattle.outside_host.proofs.clocks.open_clocks.Given as goal

abbrev pub invariant-loop-host : goal.invariant-loop-host
invariant-loop-host g l =
    (length l.clocks.items ≤ l.count)
    × (HasStartedNone g.H.Host.tells (g.H.Host.shelf l.initial.host) → (g.H.Host.shelf l.host).next_clock ≡ length l.clocks.items)
    × (HasStartedNone g.H.Host.tells (g.H.Host.shelf l.initial.host) → AreOut (g.H.Host.shelf l.initial.host).clocks (g.H.Host.shelf l.host).clocks l.clocks.items)
    × (IsTrue g.H.Host.tells → ChangesTiming (g.H.Host.shelf l.initial.host) (g.H.Host.shelf l.host))
    × (g.H.Host.faults l.host ≡ g.H.Host.faults l.initial.host)

abbrev pub decreases-loop-host : goal.decreases-loop-host
decreases-loop-host g l = l.count - length l.clocks.items
