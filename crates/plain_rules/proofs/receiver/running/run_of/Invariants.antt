-- the run shows the steps so far
use Rattle.std.proofs.Common.{take}
use Rattle.plain_rules.specs.Receiver.Told.{history_of}
use Rattle.plain_rules.specs.Receiver.Run.{IsSmallRun, RunShows}
use Rattle.plain_rules.proofs.receiver.running.run_of.Given as goal

abbrev pub invariant-loop-step : goal.invariant-loop-step
invariant-loop-step l = IsSmallRun l.run × RunShows l.limits l.run (history_of (take l.step-index l.steps))
