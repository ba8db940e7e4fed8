-- the parts that are left, and those of the flows behind them
use Rattle.std.proofs.Common.{◌≡◌, ◌≤◌, ◌+◌, ◌++◌, length, map}
use Rattle.std.specs.Prelude.{vec_capacity}
use Rattle.run_fan.specs.Inside.Making.{receiver_of, sink_of}
use Rattle.run_fan.proofs.seating.seated.Given as goal

abbrev pub invariant-loop-sink : goal.invariant-loop-sink
invariant-loop-sink g l =
    (length l.receivers.items ≡ length l.sinks.items)
    × (length l.flows.items + length l.sinks.items ≤ vec_capacity l.flows)
    × (l.sinks.items ++ map sink_of l.flows.items ≡ l.initial.sinks.items)
    × (l.receivers.items ++ map receiver_of l.flows.items ≡ l.initial.receivers.items)
    × (vec_capacity l.sinks ≡ vec_capacity l.initial.sinks)

abbrev pub decreases-loop-sink : goal.decreases-loop-sink
decreases-loop-sink g l = length l.sinks.items
