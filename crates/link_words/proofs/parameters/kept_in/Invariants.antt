use Rattle.std.proofs.Common.{◌≡◌, ◌-◌, ◌≤◌, [], Some, string_bytes}
use denote.Text.{Utf8}
use denote.Shadow.{shadow}
use Rattle.link_words.specs.Parameters.{kept_in}
use Rattle.link_words.proofs.parameters.kept_in.Given as goal

abbrev pub invariant-loop : goal.invariant-loop
invariant-loop l = shadow (Utf8 l.rest) × (l.counter ≤ 16)
    × (kept_in 16 [] (Some l.text) ≡ kept_in (16 - l.counter) (string_bytes l.kept) (Some l.rest))
