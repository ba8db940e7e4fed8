use Rattle.std.proofs.Common.{◌≡◌, ◌-◌, ◌≤◌, Some, map, string_bytes}
use denote.Text.{Utf8}
use denote.Shadow.{shadow}
use Rattle.link_words.specs.Parameters.{parameters_in}
use Rattle.link_words.proofs.parameters.push_all.Given as goal

abbrev pub invariant-loop : goal.invariant-loop
invariant-loop l = shadow (Utf8 l.rest) × (l.counter ≤ 16)
    × (parameters_in 16 l.command l.url (map string_bytes l.fn.options.items) (Some l.text) ≡ parameters_in (16 - l.counter) l.command l.url (map string_bytes l.options.items) (Some l.rest))
