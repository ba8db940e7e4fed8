use Rattle.std.proofs.Common.{◌≡◌, false, map, take}
use Rattle.clap.specs.Words.{app_of}
use Rattle.clap.specs.declared.Command.TheViews.{out-Command as fields_of}
use Rattle.rist_words.specs.Commands.{with_rules}
use Rattle.rist_words.proofs.command.with_all.Given as goal

abbrev pub invariant-loop-name : goal.invariant-loop-name
invariant-loop-name l = (app_of l.command ≡ with_rules l.kind (app_of l.initial.command) (map (λ s. s.now) (take l.name-index l.names)))
    × ((fields_of l.initial.command).has_globals ≡ false → (fields_of l.command).has_globals ≡ false)
