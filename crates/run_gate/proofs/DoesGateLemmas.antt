-- What a gateway does, by what its parts leave.
use Rattle.std.proofs.Common.{◌≡◌, ℕ, Bool, refl, subst, true, false, sym}
use mathlib.Core.Logic.{inl, inr}
use Rattle.outside_io.specs.Causes.{HasOpenCause}
use Rattle.std.specs.Prelude.{IsTrue, Err}
use Rattle.outside_host.specs.Links.{AreFirstOf}
use Rattle.outside_host.proofs.LinkOpeningLemmas.{none_first}
use Rattle.outside_host.specs.Shelf.{HasHostCause, Shelf}
use Rattle.outside_host.specs.declared.host.HostBad.{HostBad}
use Rattle.outside_host.specs.declared.host.HostBad.TheVariants as hosts
use Rattle.run_parts.specs.Statuses.{host_status}
use Rattle.rist_words.specs.CommandLine.{GateCommand}
use Rattle.run_parts.specs.Causes.{CanRefuse, fault_of}
use Rattle.run_gate.specs.DoesGate.{DoesGate}
use Rattle.run_gate.specs.Ends.{IsGateEnd}
use Rattle.run_gate.specs.Frame.{KeepsAroundGate, links_gated}
use Rattle.run_gate.specs.Gated.{Gated, Ungated}
use Rattle.run_parts.specs.Objects.{Tells, TellsLive}
use Rattle.run_parts.specs.Sealing.{FailedAt}
use Rattle.run_parts.specs.Hosts.{IsUnused}
use Rattle.run_parts.specs.declared.status.Status.{Status}
use Rattle.run_parts.specs.declared.status.Status.TheVariants as statuses
use Rattle.run_gate.proofs.GatingLemmas.{gated_completes}
use Rattle.run_parts.proofs.RefusalLemmas.{refuses}
use Rattle.run_gate.proofs.ReachedLemmas.{done_ran, gated_reached}

pub does_gate : {I O E L C : Type 0} (told : Bool) (tells : Tells I O E) (live : TellsLive L C) (c : GateCommand) (were are : ℕ) (old new : Shelf I O E L C) (status : Status)
    → IsGateEnd c status
    → HasOpenCause (fault_of status) were are
    → (IsUnused told old → (CanRefuse status → ⊥) → Gated tells live old new c status)
    → (IsUnused told old → CanRefuse status → Ungated old new)
    → (IsUnused told old → KeepsAroundGate old new c)
    → (IsUnused told old → (CanRefuse status → ⊥) → new.opened_links ≡ links_gated c)
    → (IsUnused told old → AreFirstOf new.opened_links (links_gated c))
    → (IsUnused told old → status ≡ statuses.EntropyFault → FailedAt tells old new)
    → DoesGate told tells live c were are old new status
does_gate told tells live c were are old new status ends cause gated ungated around links tried random = record {
  ends = ends;
  gated = gated;
  ungated = ungated;
  reached = λ unused done. gated_reached _ _ old new c status done (gated unused (done_ran status done));
  around = around;
  links_opened = links;
  links_tried = tried;
  random = random;
  complete = λ unused opened.
      gated_completes _ _ old new c status
      (λ e. opened (subst (λ s. HasOpenCause (fault_of s) were are) e cause))
      (λ failed. random unused failed) (λ ran. gated unused ran);
}

-- the same line, under two names
pub gate_same : {I O E L C : Type 0} (told : Bool) (tells : Tells I O E) (live : TellsLive L C) (c d : GateCommand) (were are : ℕ) (old new : Shelf I O E L C) (status : Status)
    → c ≡ d → DoesGate told tells live c were are old new status → DoesGate told tells live d were are old new status
gate_same told tells live c d were are old new status same does = subst (λ x. DoesGate told tells live x were are old new status) same does

-- memory is refused before a gateway is known
pub gates_nothing : {I O E L C : Type 0} (told : Bool) (tells : Tells I O E) (live : TellsLive L C) (c : GateCommand) (faults : ℕ) (old : Shelf I O E L C)
    → DoesGate told tells live c faults faults old old statuses.Memory
gates_nothing told tells live c faults old = record {
  ends = tt;
  gated = λ unused ran. absurd (ran refuses);
  ungated = λ unused refused. record { links = λ place. inl refl; clocks = λ place. inl refl; report = refl };
  reached = λ unused done. absurd (cc (done));
  around = λ unused. record {
    sources = refl;
    sinks = refl;
    links = record { others = λ place least. inl refl; first = λ place. inl refl };
    clocks = record { others = λ place least. inl refl; first = λ place. inl refl };
    words = record { others = λ place other. refl; first = inl refl; undrawn = λ none. refl };
  };
  links_opened = λ unused ran. absurd (ran refuses);
  links_tried = λ unused. none_first old.opened_links _ unused.links;
  random = λ unused failed. absurd (cc (failed));
  complete = λ unused opened none stays behind. inr (inr (inl refl));
}

-- a host that doesn't tell
no_told : IsTrue false → ⊥
no_told e = cc

-- what is said to a host before changes nothing that it tells, and fails no call
pub does_after : {I O E L C : Type 0} (told : Bool) (tells : Tells I O E) (live : TellsLive L C) (c : GateCommand) (were between are : ℕ) (old mid new : Shelf I O E L C) (status : Status)
    → (IsTrue told → mid ≡ old) → between ≡ were → DoesGate told tells live c between are mid new status → DoesGate told tells live c were are old new status
does_after true tells live c were between are old mid new status same kept does =
    subst (λ n. DoesGate true tells live c n are old new status) kept (subst (λ s. DoesGate true tells live c between are s new status) (same refl) does)
does_after false tells live c were between are old mid new status same kept does = record {
  ends = does.ends;
  gated = λ unused ran. absurd (no_told unused.told);
  ungated = λ unused refused. absurd (no_told unused.told);
  reached = λ unused done. absurd (no_told unused.told);
  around = λ unused. absurd (no_told unused.told);
  links_opened = λ unused ran. absurd (no_told unused.told);
  links_tried = λ unused. absurd (no_told unused.told);
  random = λ unused failed. absurd (no_told unused.told);
  complete = λ unused opened. absurd (no_told unused.told);
}

-- where that is refused nothing is begun
refused_as : (bad : HostBad) → CanRefuse (host_status bad)
refused_as hosts.Failed = inl refl
refused_as hosts.NoMemory = inr (inl refl)

refuses_still : {I O E L C : Type 0} (told : Bool) (tells : Tells I O E) (live : TellsLive L C) (c : GateCommand) (were are : ℕ) (old : Shelf I O E L C) (bad : HostBad)
    → HasHostCause {T = Unit} were are (Err bad) → DoesGate told tells live c were are old old (host_status bad)
refuses_still told tells live c were are old hosts.Failed cause =
    let d = gates_nothing told tells live c were old in record {
      ends = tt;
      gated = λ unused ran. absurd (ran (refused_as hosts.Failed));
      ungated = λ unused refused. d.ungated unused refuses;
      reached = λ unused done. absurd (cc (done));
      around = d.around;
      links_opened = λ unused ran. absurd (ran (refused_as hosts.Failed));
      links_tried = λ unused. none_first old.opened_links _ unused.links;
      random = λ unused failed. absurd (cc (failed));
      complete = λ unused opened. absurd (opened cause);
    }
refuses_still told tells live c were are old hosts.NoMemory cause =
    let d = gates_nothing told tells live c were old in record {
      ends = tt;
      gated = d.gated;
      ungated = d.ungated;
      reached = d.reached;
      around = d.around;
      links_opened = d.links_opened;
      links_tried = d.links_tried;
      random = d.random;
      complete = λ unused opened none stays behind. inr (inr (inl refl));
    }

refuses_with : {I O E L C : Type 0} (told : Bool) (tells : Tells I O E) (live : TellsLive L C) (c : GateCommand) (were are : ℕ) (old new : Shelf I O E L C) (bad : HostBad)
    → (IsTrue told → new ≡ old) → HasHostCause {T = Unit} were are (Err bad) → DoesGate told tells live c were are old new (host_status bad)
refuses_with true tells live c were are old new bad same cause =
    subst (λ s. DoesGate true tells live c were are old s (host_status bad)) (sym (same refl)) (refuses_still true tells live c were are old bad cause)
refuses_with false tells live c were are old new bad same cause = record {
  ends = (refuses_still false tells live c were are old bad cause).ends;
  gated = λ unused ran. absurd (no_told unused.told);
  ungated = λ unused refused. absurd (no_told unused.told);
  reached = λ unused done. absurd (no_told unused.told);
  around = λ unused. absurd (no_told unused.told);
  links_opened = λ unused ran. absurd (no_told unused.told);
  links_tried = λ unused. absurd (no_told unused.told);
  random = λ unused failed. absurd (no_told unused.told);
  complete = λ unused opened. absurd (no_told unused.told);
}

pub refuses_before : {I O E L C : Type 0} (told : Bool) (tells : Tells I O E) (live : TellsLive L C) (c : GateCommand) (were are : ℕ) (old new : Shelf I O E L C) (bad : HostBad) (status : Status)
    → status ≡ host_status bad → (IsTrue told → new ≡ old) → HasHostCause {T = Unit} were are (Err bad) → DoesGate told tells live c were are old new status
refuses_before told tells live c were are old new bad status is same cause =
    subst (λ s. DoesGate told tells live c were are old new s) (sym is) (refuses_with told tells live c were are old new bad same cause)
