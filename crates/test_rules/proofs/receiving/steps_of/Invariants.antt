-- the steps so far are fit
use Rattle.std.specs.List.{All}
use Rattle.plain_rules.specs.Receiver.Told.{IsFit}
use Rattle.test_rules.proofs.receiving.steps_of.Given as goal

abbrev pub invariant-loop-told : goal.invariant-loop-told
invariant-loop-told l = All IsFit l.steps.items
