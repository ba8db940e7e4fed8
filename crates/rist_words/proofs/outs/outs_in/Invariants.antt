use Rattle.std.proofs.Common.{◌≡◌, ◌-◌, ◌≤◌, Some}
use denote.Text.{Utf8}
use denote.Shadow.{shadow}
use Rattle.rist_words.specs.Outs.{outs_in}
use Rattle.rist_words.proofs.OutLemmas.{outs_before}
use Rattle.rist_words.proofs.outs.outs_in.Given as goal

abbrev pub invariant-loop : goal.invariant-loop
invariant-loop l = shadow (Utf8 l.rest) × (l.counter ≤ 8)
    × (outs_in 8 (Some l.text) ≡ outs_before l.ports.items l.names.items (outs_in (8 - l.counter) (Some l.rest)))
