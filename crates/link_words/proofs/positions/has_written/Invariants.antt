use Rattle.std.proofs.Common.{◌≡◌, drop, map, string_bytes}
use Rattle.link_words.specs.Positions.{written_from}
use Rattle.link_words.proofs.positions.has_written.Given as goal

abbrev pub invariant-loop-word : goal.invariant-loop-word
invariant-loop-word l = written_from l.fn.scan (map string_bytes l.words) ≡ written_from l.at (map string_bytes (drop l.word-index l.words))
