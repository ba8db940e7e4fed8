-- What a reader of records answers.
use Rattle.std.specs.Prelude.{Bool, true, false, Result, Ok, Err}
use Rattle.std.specs.declared.option.Option.{Option}
use Rattle.std.specs.declared.option.Option.TheVariants as options
use Rattle.capture_file.specs.declared.head.Head.{Head}
use Rattle.capture_walk.specs.declared.walk_bad.WalkBad.{WalkBad}

-- P holds of how the records ended, where there was no more
abbrev pub IfEnded : Result (Option Head) WalkBad → (Result Unit WalkBad → Type 0) → Type 0
IfEnded (Ok options.None) P = P (Ok tt)
IfEnded (Ok (options.Some head)) P = Unit {0}
IfEnded (Err bad) P = P (Err bad)

-- a reader is spent after all but a record
abbrev pub spent_by : Result (Option Head) WalkBad → Bool
spent_by (Ok (options.Some head)) = false
spent_by (Ok options.None) = true
spent_by (Err bad) = true
