-- What is left where a text goes to the standard output.
use Rattle.std.proofs.Common.{◌≡◌, ◌≢◌, ◌⊎◌, ℕ, List, Bool, refl, subst}
use mathlib.Core.Logic.{inl, inr}
use Rattle.std.specs.Prelude.{IsTrue, codes}
use Rattle.outside_io.specs.Causes.{HasOpenCause, HasWriteCause}
use Rattle.outside_host.specs.Shelf.{Shelf, Stays, ChangesSinks}
use Rattle.rist_words.specs.CommandLine.{DrillCommand}
use Rattle.run_parts.specs.Causes.{CanRefuse, fault_of}
use Rattle.run_print.specs.Printing.{DoesPrint, IsPrintEnd, Prints}
use Rattle.run_parts.specs.Objects.{Tells}
use Rattle.run_parts.specs.declared.status.Status.{Status}
use Rattle.run_parts.specs.declared.status.Status.TheVariants as statuses
use Rattle.run_print.specs.DoesDrill.{DoesDrill}

done_or_memory : (status : Status) → IsPrintEnd status → (status ≡ statuses.OpenFault → ⊥) → (status ≡ statuses.WriteFault → ⊥)
    → (status ≡ statuses.Done) ⊎ (status ≡ statuses.Memory)
done_or_memory status (inl done) opened written = inl done
done_or_memory status (inr (inl memory)) opened written = inr memory
done_or_memory status (inr (inr (inl failed))) opened written = absurd (opened failed)
done_or_memory status (inr (inr (inr failed))) opened written = absurd (written failed)

unrefused : CanRefuse statuses.WriteFault → ⊥
unrefused (inl e) = cc
unrefused (inr (inl e)) = cc
unrefused (inr (inr e)) = cc

pub does_print : {I O E L C : Type 0} (told : Bool) (tells : Tells I O E) (Holds : List ℕ → Type 0) (were are : ℕ) (old new : Shelf I O E L C) (status : Status)
    → IsPrintEnd status → HasOpenCause (fault_of status) were are
    → (IsTrue told → (CanRefuse status → ⊥) → Prints tells Holds old new status)
    → (IsTrue told → CanRefuse status → Stays old.sinks new.sinks)
    → (IsTrue told → ChangesSinks old new)
    → (IsTrue told → (n : List ℕ) → n ≢ codes "-" → new.sinks n ≡ old.sinks n)
    → DoesPrint told tells Holds were are old new status
does_print told tells Holds were are old new status ends opened printed unprinted around others = record {
  ends = ends;
  printed = printed;
  unprinted = unprinted;
  around = around;
  others = others;
  complete = λ told unopened unfailed.
      done_or_memory status ends (λ e. unopened (subst (λ s. HasOpenCause (fault_of s) were are) e opened))
      (λ e.
      let d = printed told (λ refused. unrefused (subst CanRefuse e refused)) in
      unfailed d.sink d.filled d.took d.gave (subst (λ s. HasWriteCause (fault_of s) (tells.write_faults d.sink) (tells.write_faults d.filled)) e d.write));
}

-- memory is refused before it is known what is to be written
pub prints_nothing : {I O E L C : Type 0} (told : Bool) (tells : Tells I O E) (Holds : List ℕ → Type 0) (faults : ℕ) (old : Shelf I O E L C)
    → DoesPrint told tells Holds faults faults old old statuses.Memory
prints_nothing told tells Holds faults old = record {
  ends = inr (inl refl);
  printed = λ told ran. absurd (ran (inr (inl refl)));
  unprinted = λ told refused n. refl;
  around = λ told. refl;
  others = λ told n other. refl;
  complete = λ told unopened unfailed. inr refl;
}

pub drilled_same : {I O E L C : Type 0} (told : Bool) (tells : Tells I O E) (c k : DrillCommand) (were are : ℕ) (old new : Shelf I O E L C) (status : Status)
    → c ≡ k → DoesDrill told tells c were are old new status → DoesDrill told tells k were are old new status
drilled_same told tells c k were are old new status same does = subst (λ x. DoesDrill told tells x were are old new status) same does
