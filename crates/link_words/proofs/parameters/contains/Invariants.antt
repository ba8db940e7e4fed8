use Rattle.std.proofs.Common.{◌≡◌, drop, map, string_bytes}
use Rattle.std.specs.List.{list_any}
use Rattle.std.specs.Str.{bytes_eq}
use Rattle.link_words.proofs.parameters.contains.Given as goal

abbrev pub invariant-loop-other : goal.invariant-loop-other
invariant-loop-other l = list_any (λ o. bytes_eq o l.word) (map string_bytes l.words) ≡ list_any (λ o. bytes_eq o l.word) (map string_bytes (drop l.other-index l.words))
