-- the flows that are left, and the sinks and the counts of those behind them
use Rattle.std.proofs.Common.{◌≡◌, ◌≤◌, ◌+◌, ◌++◌, length, map}
use Rattle.std.specs.Prelude.{vec_capacity}
use Rattle.run_fan.specs.Inside.Making.{counts_of, sink_of}
use Rattle.run_fan.proofs.seating.unseated.Given as goal

abbrev pub invariant-loop-flow : goal.invariant-loop-flow
invariant-loop-flow g l =
    (length l.sinks.items + length l.more.items + 1 ≤ vec_capacity l.sinks)
    × (length l.counts.items + length l.more.items + 1 ≤ vec_capacity l.counts)
    × (map sink_of l.more.items ++ l.sinks.items ≡ map sink_of l.initial.more.items)
    × (map counts_of l.more.items ++ l.counts.items ≡ map counts_of l.initial.more.items)

abbrev pub decreases-loop-flow : goal.decreases-loop-flow
decreases-loop-flow g l = length l.more.items
