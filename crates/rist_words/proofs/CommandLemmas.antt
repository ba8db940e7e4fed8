-- A command with one more of a list of arguments.
use Rattle.std.proofs.Common.{◌≡◌, ◌<◌, ◌+◌, ℕ, List, refl, get_or, length, map, take}
use Rattle.std.specs.Borrow.{Bor}
use Rattle.std.proofs.lemmas.List.{map-append, take_more}
use Rattle.std.proofs.lemmas.List.Sums.{fold-append}
use Rattle.clap.specs.Words.{App, Text, with_rule}
use Rattle.rist_words.specs.declared.command.Kind.{Kind}
use Rattle.rist_words.specs.Commands.{rule_for, with_rules}

pub with_one_more : (kind : Kind) (app : App) (names : List (Bor Text)) (i : ℕ) (d : Bor Text) → i < length names
    → with_rules kind app (map (λ s. s.now) (take (i + 1) names)) ≡ with_rule (with_rules kind app (map (λ s. s.now) (take i names))) (rule_for kind (get_or names i d).now)
with_one_more kind app names i d lt = rw (take_more names i d lt, map-append, fold-append) refl
