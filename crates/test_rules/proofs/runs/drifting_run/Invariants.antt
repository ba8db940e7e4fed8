-- the steps so far are fit
use Rattle.std.specs.List.{All}
use Rattle.plain_rules.specs.Receiver.Told.{IsFit}
use Rattle.test_rules.proofs.runs.drifting_run.Given as goal

abbrev pub invariant-loop-k : goal.invariant-loop-k
invariant-loop-k l = All IsFit l.steps.items
