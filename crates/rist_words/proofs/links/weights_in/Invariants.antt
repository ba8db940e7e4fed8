use Rattle.std.proofs.Common.{◌≡◌, ◌+◌, ◌-◌, ◌≤◌}
use denote.Text.{Utf8}
use denote.Shadow.{shadow}
use Rattle.rist_words.specs.Links.{weights_in}
use Rattle.rist_words.proofs.LinkLemmas.{weights_with}
use Rattle.rist_words.proofs.links.weights_in.Given as goal

abbrev pub invariant-loop : goal.invariant-loop
invariant-loop l = shadow (Utf8 l.rest) × (1 ≤ l.counter) × (l.counter ≤ l.links)
    × (weights_in l.links l.text ≡ weights_with l.weights.items (weights_in (l.links + 1 - l.counter) l.rest))
