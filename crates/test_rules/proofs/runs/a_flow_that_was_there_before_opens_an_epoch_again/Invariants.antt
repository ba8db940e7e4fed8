-- the buffer takes arrivals, and its time has not passed the step's
use Rattle.std.proofs.Common.{◌≡◌, ◌<◌, ◌≤◌, ◌^◌}
use Rattle.reorder_buffer.specs.declared.phase.Phase.TheVariants.{Open}
use Rattle.test_rules.proofs.runs.a_flow_that_was_there_before_opens_an_epoch_again.Given as goal

abbrev pub invariant-loop-row : goal.invariant-loop-row
invariant-loop-row g l = (l.buffer.phase ≡ Open) × (l.buffer.time ≤ l.at) × (l.at < 2 ^ 61)
