-- What stands behind a link or a source that ends where the program is to end.
use Rattle.std.specs.Prelude.{◌≡◌, ℕ, ◌+◌, Option, Some, Bool, false}
use Rattle.end_sign.specs.Status.{answers_of}
use Rattle.end_sign.specs.declared.process_sign.ProcessSign.{ProcessSign}
use Rattle.end_sign.specs.declared.until.Until.{Until}
use Rattle.end_sign.specs.declared.until_source.UntilSource.{UntilSource}

-- how often the reads of a link came to an end: those of the link behind, and those by the sign
abbrev pub ends_with : ℕ → ℕ → ℕ
ends_with behind own = behind + own

-- the link behind
abbrev pub link_behind : {L S : Type 0} → Until L S → L
link_behind until = until.link

-- the source behind
abbrev pub source_behind : {S E : Type 0} → UntilSource S E → S
source_behind until = until.source

-- what the sign of the system tells that a link ends by
abbrev pub sign_of : {L R : Type 0} → Until L (ProcessSign R) → Option (ℕ → Bool)
sign_of until = answers_of until.sign.looks

-- a sign tells that it says no for ever
abbrev pub SaysNo : Option (ℕ → Bool) → Type 0
SaysNo told = (s : ℕ → Bool) × (told ≡ Some s) × ((k : ℕ) → s k ≡ false)
