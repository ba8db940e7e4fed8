-- the buffer takes arrivals, and its time has not passed the step's
use Rattle.std.proofs.Common.{◌≡◌, ◌<◌, ◌≤◌, ◌^◌}
use Rattle.reorder_buffer.specs.declared.phase.Phase.TheVariants.{Open}
use Rattle.test_rules.proofs.runs.play_on.Given as goal

abbrev pub invariant-loop-step : goal.invariant-loop-step
invariant-loop-step l = (l.buffer.phase ≡ Open) × (l.buffer.time ≤ l.at) × (l.at < 2 ^ 61)
