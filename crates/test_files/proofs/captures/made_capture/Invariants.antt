-- the steps so far are fit
use Rattle.std.specs.List.{All}
use Rattle.plain_rules.specs.Receiver.Told.{IsFit}
use Rattle.test_files.proofs.captures.made_capture.Given as goal

abbrev pub invariant-loop-place : goal.invariant-loop-place
invariant-loop-place l = All IsFit l.steps.items
