use Rattle.std.proofs.Common.{◌≡◌, ◌≤◌, ◌+◌, drop, map, string_bytes}
use Rattle.pass_words.specs.Options.{pass_count}
use Rattle.pass_words.proofs.options.pass_count.Given as goal

abbrev pub invariant-loop-word : goal.invariant-loop-word
invariant-loop-word l = record {
  within : l.count ≤ l.word-index;
  counted : pass_count l.option (map string_bytes l.words) ≡ pass_count l.option (map string_bytes (drop l.word-index l.words)) + l.count;
}
