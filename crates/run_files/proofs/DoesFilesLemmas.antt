-- What a command over a source and a sink does, by what its parts leave.
use Rattle.std.proofs.Common.{◌≡◌, ◌∙◌, refl, sym, ap, subst, ◌≢◌, ◌⊎◌, ℕ, Bool}
use mathlib.Core.Logic.{inl, inr}
use Rattle.outside_host.specs.Shelf.{Shelf}
use Rattle.rist_words.specs.CommandLine.{CommandLine, ReplayCommand, Replay, Show, Count, Report, Pack, Split, Send, Recv, Fan, Gate, Drill}
use Rattle.std.specs.Prelude.{IsTrue}
use Rattle.std.proofs.lemmas.Bool.{true≢false}
use Rattle.outside_io.specs.Causes.{HasOpenCause}
use Rattle.rist_words.specs.Ranges.{IsInRange}
use Rattle.run_parts.specs.Objects.{Tells}
use Rattle.run_files.specs.Ran.{Ran}
use Rattle.run_parts.specs.declared.status.Status.{Status}
use Rattle.run_parts.specs.declared.status.Status.TheVariants as statuses
use Rattle.run_parts.specs.Causes.{fault_of}
use Rattle.run_files.specs.DoesFiles.{DoesFiles}
use Rattle.run_files.specs.Ends.{IsFilesEnd}
use Rattle.run_files.specs.Frame.{KeepsOthers, OpensSourceFirst}
use Rattle.run_files.specs.Ready.{IsReady, is_packing}
use Rattle.run_files.specs.Untouched.{IsShowing, Untouched}
use Rattle.run_files.proofs.ExactLemmas.{ran_reached, ran_epochs, ran_front}
use Rattle.run_files.proofs.CutOffLemmas.{ran_part}
use Rattle.run_files.proofs.CompleteLemmas.{ran_completes}
use Rattle.run_files.proofs.UntouchedLemmas.{line_at_memory}

pub ran_line : {I O E L C : Type 0} (tells : Tells I O E) (old new : Shelf I O E L C) (c k : CommandLine) (status : Status) → c ≡ k → Ran tells old new c status → Ran tells old new k status
ran_line tells old new c k status is ran = subst (λ x. Ran tells old new x status) is ran

not_open : statuses.Done ≡ statuses.OpenFault → ⊥
not_open e = cc

fault_opened : statuses.WriteFault ≡ statuses.OpenFault → ⊥
fault_opened e = cc

fault_memory : statuses.WriteFault ≡ statuses.Memory → ⊥
fault_memory e = cc

not_memory : statuses.Done ≡ statuses.Memory → ⊥
not_memory e = cc

-- a host that tells is ready for a replay
ready : {I O E L C : Type 0} (told : Bool) (old : Shelf I O E L C) (c : CommandLine) (r : ReplayCommand) → c ≡ Replay r → IsTrue told → IsReady told old c
ready told old c r is tells = (tells, λ packing. absurd (true≢false (sym packing ∙ ap is_packing is)))

pub does_files : {I O E L C : Type 0} (told : Bool) (tells : Tells I O E) (c : CommandLine) (were are : ℕ) (old new : Shelf I O E L C) (status : Status)
    → IsInRange c
    → IsFilesEnd c status
    → HasOpenCause (fault_of status) were are
    → (IsReady told old c → KeepsOthers old new c)
    → (IsTrue told → OpensSourceFirst old new c)
    → (IsReady told old c → status ≢ statuses.OpenFault → status ≢ statuses.Memory → Ran tells old new c status)
    → (IsTrue told → status ≡ statuses.OpenFault → Untouched old new c)
    → (IsReady told old c → status ≡ statuses.Memory → Untouched old new c ⊎ (IsShowing c × Ran tells old new c status))
    → DoesFiles told tells c were are old new status
does_files told tells c were are old new status range ends cause others order ran closed memory = record {
  ends = ends;
  others = others;
  order = order;
  ran = ran;
  closed = closed;
  memory = λ fresh refused. line_at_memory _ old new c status (memory fresh refused) refused;
  reached = λ r is told_is done.
      ran_reached _ old new r status (subst IsInRange is range).some_delay done
      (ran_line _ _ _ _ _ _ is (ran (ready told old c r is told_is) (λ e. not_open (sym done ∙ e)) (λ e. not_memory (sym done ∙ e))));
  epochs = λ r is told_is done.
      ran_epochs _ old new r status (subst IsInRange is range).some_delay done
      (ran_line _ _ _ _ _ _ is (ran (ready told old c r is told_is) (λ e. not_open (sym done ∙ e)) (λ e. not_memory (sym done ∙ e))));
  front = λ r is told_is opened memory fault.
      ran_front _ old new r status (subst IsInRange is range).some_delay memory fault (ran_line _ _ _ _ _ _ is (ran (ready told old c r is told_is) opened memory));
  cut = λ r is told_is fault.
      ran_part _ old new r status (subst IsInRange is range).some_delay fault
      (ran_line _ _ _ _ _ _ is (ran (ready told old c r is told_is) (λ e. fault_opened (sym fault ∙ e)) (λ e. fault_memory (sym fault ∙ e))));
  complete = λ fresh opened.
      ran_completes _ old new c status
      (λ e. opened (subst (λ s. HasOpenCause (fault_of s) were are) e cause))
      (λ unopened memory. ran fresh unopened memory);
}

-- the same line, under two names
pub files_same : {I O E L C : Type 0} (told : Bool) (tells : Tells I O E) (c d : CommandLine) (were are : ℕ) (old new : Shelf I O E L C) (status : Status)
    → c ≡ d → DoesFiles told tells c were are old new status → DoesFiles told tells d were are old new status
files_same told tells c d were are old new status same does = subst (λ x. DoesFiles told tells x were are old new status) same does

keeps_others : {I O E L C : Type 0} (old : Shelf I O E L C) (c : CommandLine) → KeepsOthers old old c
keeps_others old c = record {
  sources = λ n other. refl;
  sinks = λ n other. refl;
  entropies = λ place other. refl;
  source = inl refl;
  sink = inl refl;
  first = inl refl;
  undrawn = λ none. refl;
  live = record { links = refl; opened = refl; clocks = refl; next = refl; report = refl };
}

untouched : {I O E L C : Type 0} (old : Shelf I O E L C) (c : CommandLine) → Untouched old old c
untouched old c = record { source = inl refl; sink = inl refl; other_sources = λ n other. refl; other_sinks = λ n other. refl; entropies = λ place. refl }

ends_memory : (c : CommandLine) → IsFilesEnd c statuses.Memory
ends_memory (Replay c) = tt
ends_memory (Show c) = tt
ends_memory (Count c) = tt
ends_memory (Report c) = tt
ends_memory (Pack c) = tt
ends_memory (Split c) = tt
ends_memory (Send c) = tt
ends_memory (Recv c) = tt
ends_memory (Fan c) = tt
ends_memory (Gate c) = tt
ends_memory (Drill c) = tt

-- memory is refused before a line is known
pub files_nothing : {I O E L C : Type 0} (told : Bool) (tells : Tells I O E) (c : CommandLine) (faults : ℕ) (old : Shelf I O E L C)
    → DoesFiles told tells c faults faults old old statuses.Memory
files_nothing told tells c faults old = record {
  ends = ends_memory c;
  others = λ fresh. keeps_others old c;
  order = λ told same. refl;
  ran = λ fresh unopened memory. absurd (memory refl);
  closed = λ told unopened. absurd (cc (unopened));
  memory = λ fresh memory. inl (untouched old c);
  reached = λ r is fresh done. absurd (cc (done));
  epochs = λ r is fresh done. absurd (cc (done));
  front = λ r is fresh opened memory. absurd (memory refl);
  cut = λ r is fresh fault. absurd (cc (fault));
  complete = λ fresh opened source b here told input none. inr refl;
}
