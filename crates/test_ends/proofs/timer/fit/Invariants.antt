-- the steps so far are fit
use Rattle.std.specs.List.{All}
use Rattle.plain_rules.specs.Requests.Told.{IsFit}
use Rattle.test_ends.proofs.timer.fit.Given as goal

abbrev pub invariant-loop-row : goal.invariant-loop-row
invariant-loop-row l = All IsFit l.fit.items
