-- a sink for each name so far
use Rattle.std.proofs.Common.{◌≡◌, length, map, take}
use Rattle.std.specs.Prelude.{IsTrue, All}
use Rattle.outside_io.specs.Told.{IsEmpty}
use Rattle.outside_host.specs.Shelf.{ChangesSinks}
use Rattle.outside_host.specs.Sinks.{AreOut}
use Rattle.outside_host.proofs.sinks.open_sinks.Given as goal

abbrev pub invariant-loop-name : goal.invariant-loop-name
invariant-loop-name g l =
    (length l.sinks.items ≡ l.name-index)
    × (IsTrue g.H.Host.tells
    → AreOut (g.H.Host.shelf l.initial.host).sinks (g.H.Host.shelf l.host).sinks (take l.name-index (map (λ name. name.now) l.names)) l.sinks.items)
    × (All (λ sink. IsEmpty (g.H.Output.Sink.contents sink)) l.sinks.items)
    × (IsTrue g.H.Host.tells → ChangesSinks (g.H.Host.shelf l.initial.host) (g.H.Host.shelf l.host))
    × (g.H.Host.faults l.host ≡ g.H.Host.faults l.initial.host)
