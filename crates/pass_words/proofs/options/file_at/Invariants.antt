use Rattle.std.proofs.Common.{◌≡◌, drop, map, string_bytes}
use Rattle.pass_words.specs.Options.{file_from}
use Rattle.pass_words.proofs.options.file_at.Given as goal

abbrev pub invariant-loop-word : goal.invariant-loop-word
invariant-loop-word l = record {
  at : l.at ≡ l.word-index;
  found : file_from l.fn.option 0 (map string_bytes l.words) ≡ file_from l.fn.option l.at (map string_bytes (drop l.word-index l.words));
}
