use Rattle.std.proofs.Common.{◌≡◌, drop, map}
use Rattle.clap.specs.Words.{found_of, rows_of}
use Rattle.rist_help.specs.Checks.{first_failing, shown_test}
use Rattle.rist_help.proofs.checks.first_failing.Given as goal

abbrev pub invariant-loop-test : goal.invariant-loop-test
invariant-loop-test l =
    first_failing (rows_of (found_of l.values)) (map shown_test l.tests) ≡ first_failing (rows_of (found_of l.values)) (map shown_test (drop l.test-index l.tests))
