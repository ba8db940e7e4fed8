-- those behind the ones that are left came back
use Rattle.std.proofs.Common.{◌≡◌, ◌≤◌, length}
use Rattle.std.specs.Prelude.{IsTrue}
use Rattle.outside_host.specs.Shelf.{ChangesClocks}
use Rattle.outside_host.proofs.LinkGivingLemmas.{IsGivingBack}
use Rattle.outside_host.proofs.clocks.back_clocks.Given as goal

abbrev pub invariant-loop-clock : goal.invariant-loop-clock
invariant-loop-clock g l =
    (length l.clocks.items ≤ length l.initial.clocks.items)
    × (IsTrue g.H.Host.tells → IsGivingBack (g.H.Host.shelf l.initial.host).clocks (g.H.Host.shelf l.host).clocks l.initial.clocks.items l.clocks.items)
    × (IsTrue g.H.Host.tells → ChangesClocks (g.H.Host.shelf l.initial.host) (g.H.Host.shelf l.host))
    × (g.H.Host.faults l.host ≡ g.H.Host.faults l.initial.host)

abbrev pub decreases-loop-clock : goal.decreases-loop-clock
decreases-loop-clock g l = goal.left-loop-clock g l
