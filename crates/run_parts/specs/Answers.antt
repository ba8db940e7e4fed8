-- What is had, or why not.
use Rattle.std.specs.Prelude.{Result, Ok, Err}
use Rattle.run_parts.specs.declared.status.Status.{Status}
use Rattle.run_parts.specs.declared.status.Status.TheVariants as statuses

-- the status of what is had, or of what could not be had
abbrev pub status_of : {T : Type 0} → Result T Status → Status
status_of (Ok x) = statuses.Done
status_of (Err status) = status

-- P holds of an error
abbrev pub OnErrIs : {T E : Type 0} → Result T E → (E → Type 0) → Type 0
OnErrIs (Ok x) P = Unit {0}
OnErrIs (Err e) P = P e
