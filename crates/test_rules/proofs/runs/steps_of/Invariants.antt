-- the steps so far are fit
use Rattle.std.specs.List.{All}
use Rattle.plain_rules.specs.Receiver.Told.{IsFit}
use Rattle.test_rules.proofs.runs.steps_of.Given as goal

abbrev pub invariant-loop-one : goal.invariant-loop-one
invariant-loop-one l = All IsFit l.steps.items
