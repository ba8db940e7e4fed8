-- There are a link, a clock and an opener for each script so far.
use Rattle.std.proofs.Common.{◌≡◌, length}
use Rattle.test_runs.proofs.flowing.ends.Given as goal

abbrev pub invariant-loop-script : goal.invariant-loop-script
invariant-loop-script l = record {
  links : length l.links.items ≡ l.script-index;
  clocks : length l.clocks.items ≡ l.script-index;
  openers : length l.openers.items ≡ l.script-index;
}
