use Rattle.std.proofs.Common.{◌≡◌, drop, map, string_bytes}
use Rattle.link_words.specs.Addresses.{options_from}
use Rattle.link_words.proofs.parameters.push_options.Given as goal

abbrev pub invariant-loop-word : goal.invariant-loop-word
invariant-loop-word l =
    options_from l.command l.fn.scan (map string_bytes l.fn.options.items) (map string_bytes l.words)
    ≡ options_from l.command l.at (map string_bytes l.options.items) (map string_bytes (drop l.word-index l.words))
