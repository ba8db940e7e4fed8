-- What is left of a host, and what is answered, where a text goes to its standard output.
use Rattle.std.specs.Prelude.{◌≡◌, ◌≢◌, ◌⊎◌, ℕ, List, Bool, IsTrue, codes}
use Rattle.outside_io.specs.Causes.{Rose, HasWriteCause}
use Rattle.outside_io.specs.Told.{Appends, AppendsPart, IsEmpty}
use Rattle.outside_host.specs.Shelf.{Shelf, Stays, ChangesSinks}
use Rattle.outside_host.specs.declared.host.Place.TheVariants.{Here, Back}
use Rattle.run_parts.specs.Causes.{CanRefuse, fault_of}
use Rattle.run_parts.specs.Objects.{Tells}
use Rattle.run_parts.specs.declared.status.Status.{Status}
use Rattle.run_parts.specs.declared.status.Status.TheVariants as statuses

-- the text was written, or memory was refused, or the standard output could not be opened or written to
abbrev pub IsPrintEnd : Status → Type 0
IsPrintEnd status =
    (status ≡ statuses.Done)
    ⊎ ((status ≡ statuses.Memory) ⊎ ((status ≡ statuses.OpenFault) ⊎ (status ≡ statuses.WriteFault)))

-- The standard output was handed out, empty, and came back with a text of which this holds: with Done the whole of it,
-- and where a write failed a front part.
pub record Prints {I O E L C : Type 0} (tells : Tells I O E) (Holds : List ℕ → Type 0) (old new : Shelf I O E L C)
    (status : Status) : Type 0 where
  pub sink : O
  pub filled : O
  pub took : old.sinks (codes "-") ≡ Here sink
  pub gave : new.sinks (codes "-") ≡ Back filled
  pub fresh : IsEmpty (tells.contents sink)
  pub text : List ℕ
  pub holds : Holds text
  pub whole : status ≡ statuses.Done → Appends (tells.contents sink) (tells.contents filled) text
  pub part : status ≡ statuses.WriteFault → AppendsPart (tells.contents sink) (tells.contents filled) text
  pub write : HasWriteCause (fault_of status) (tells.write_faults sink) (tells.write_faults filled)

-- no write to the standard output failed
abbrev pub NoOutputFailed : {I O E L C : Type 0} → Tells I O E → Shelf I O E L C → Shelf I O E L C → Type 0
NoOutputFailed {I} {O} tells old new =
    (sink filled : O) → old.sinks (codes "-") ≡ Here sink → new.sinks (codes "-") ≡ Back filled
    → Rose (tells.write_faults sink) (tells.write_faults filled) → ⊥

-- a text of which this holds went to the standard output of a host, whose count of failed calls stood so before and
-- after
pub record DoesPrint {I O E L C : Type 0} (told : Bool) (tells : Tells I O E) (Holds : List ℕ → Type 0)
    (faults_were faults_are : ℕ) (old new : Shelf I O E L C) (status : Status) : Type 0 where
  pub ends : IsPrintEnd status
  -- where memory is refused or the standard output can't be opened, nothing is handed out
  pub printed : IsTrue told → (CanRefuse status → ⊥) → Prints tells Holds old new status
  pub unprinted : IsTrue told → CanRefuse status → Stays old.sinks new.sinks
  -- only the standard output is touched
  pub around : IsTrue told → ChangesSinks old new
  pub others : IsTrue told → (n : List ℕ) → n ≢ codes "-" → new.sinks n ≡ old.sinks n
  -- where no call fails it is done, or memory was refused
  pub complete : IsTrue told → (Rose faults_were faults_are → ⊥) → NoOutputFailed tells old new
      → (status ≡ statuses.Done) ⊎ (status ≡ statuses.Memory)
