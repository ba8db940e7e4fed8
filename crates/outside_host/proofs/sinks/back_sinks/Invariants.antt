-- those behind the ones that are left came back
use Rattle.std.proofs.Common.{◌≡◌, ◌≤◌, length, map}
use Rattle.std.specs.Prelude.{IsTrue}
use Rattle.outside_host.specs.Shelf.{ChangesSinks}
use Rattle.outside_host.proofs.SinkGivingLemmas.{IsGivingBack}
use Rattle.outside_host.proofs.sinks.back_sinks.Given as goal

abbrev pub invariant-loop-sink : goal.invariant-loop-sink
invariant-loop-sink g l =
    (length l.sinks.items ≤ length l.names)
    × (IsTrue g.H.Host.tells → IsGivingBack (g.H.Host.shelf l.initial.host).sinks (g.H.Host.shelf l.host).sinks (map (λ name. name.now) l.names) l.initial.sinks.items l.sinks.items)
    × (IsTrue g.H.Host.tells → ChangesSinks (g.H.Host.shelf l.initial.host) (g.H.Host.shelf l.host))
    × (g.H.Host.faults l.host ≡ g.H.Host.faults l.initial.host)

abbrev pub decreases-loop-sink : goal.decreases-loop-sink
decreases-loop-sink g l = goal.left-loop-sink g l
