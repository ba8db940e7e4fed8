use Rattle.std.proofs.Common.{◌≡◌, ◌≤◌, ◌*◌, take}
use Rattle.rist_reporter.specs.Asking.{number_count}
use Rattle.rist_reporter.proofs.asking.number_count.Given as goal

abbrev pub invariant-loop-word : goal.invariant-loop-word
invariant-loop-word l = record {
  exact : l.count ≡ number_count l.kind (take l.word-index l.words);
  within : l.count ≤ 65536 * l.word-index;
}
