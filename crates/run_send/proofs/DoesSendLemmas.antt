-- What a sending does, by what its parts leave.
use Rattle.std.proofs.Common.{◌≡◌, ℕ, Bool, refl, subst, true, false, sym}
use mathlib.Core.Logic.{inl, inr}
use Rattle.std.specs.Prelude.{IsTrue, Err}
use Rattle.outside_io.specs.Causes.{HasOpenCause}
use Rattle.outside_host.specs.Links.{AreFirstOf}
use Rattle.outside_host.proofs.LinkOpeningLemmas.{none_first}
use Rattle.outside_host.specs.Shelf.{HasHostCause, Shelf}
use Rattle.outside_host.specs.declared.host.HostBad.{HostBad}
use Rattle.outside_host.specs.declared.host.HostBad.TheVariants as hosts
use Rattle.run_parts.specs.Statuses.{host_status}
use Rattle.rist_words.specs.CommandLine.{SendCommand}
use Rattle.rist_words.specs.Ranges.{IsInSend}
use Rattle.run_parts.specs.Causes.{CanRefuse, fault_of}
use Rattle.run_send.specs.DoesSend.{DoesSend}
use Rattle.run_send.specs.Ends.{IsSendEnd}
use Rattle.run_send.specs.Frame.{KeepsAround, OpensLinksAfter, links_opened}
use Rattle.run_parts.specs.Objects.{Tells, TellsLive}
use Rattle.run_parts.specs.Sealing.{FailedAt}
use Rattle.run_parts.specs.Hosts.{IsUnused}
use Rattle.run_send.specs.Sent.{Sent, Unsent}
use Rattle.run_parts.specs.declared.status.Status.{Status}
use Rattle.run_parts.specs.declared.status.Status.TheVariants as statuses
use Rattle.run_parts.proofs.RefusalLemmas.{refuses}
use Rattle.run_send.proofs.PiecesLemmas.{in_pieces}
use Rattle.run_send.proofs.WholeLemmas.{sent_completes}

pub does_send : {I O E L C : Type 0} (told : Bool) (tells : Tells I O E) (live : TellsLive L C) (c : SendCommand) (were are : ℕ) (old new : Shelf I O E L C) (status : Status)
    → IsInSend c
    → IsSendEnd c status
    → HasOpenCause (fault_of status) were are
    → (IsUnused told old → (CanRefuse status → ⊥) → Sent tells live old new c status)
    → (IsUnused told old → CanRefuse status → Unsent old new c)
    → (IsUnused told old → KeepsAround old new c)
    → (IsUnused told old → (CanRefuse status → ⊥) → new.opened_links ≡ links_opened c)
    → (IsUnused told old → AreFirstOf new.opened_links (links_opened c))
    → (IsTrue told → OpensLinksAfter old new c)
    → (IsUnused told old → status ≡ statuses.EntropyFault → FailedAt tells old new)
    → DoesSend told tells live c were are old new status
does_send told tells live c were are old new status range ends cause sent unsent around links tried after random = record {
  ends = ends;
  sent = sent;
  unsent = unsent;
  pieces = λ unused went. in_pieces _ _ old new c status (sent unused went);
  around = around;
  links_opened = links;
  links_tried = tried;
  links_after = after;
  random = random;
  complete = λ unused opened.
      sent_completes _ _ old new c status range.stream.first
      (λ e. opened (subst (λ s. HasOpenCause (fault_of s) were are) e cause))
      (λ failed. random unused failed) (λ went. sent unused went);
}

-- the same line, under two names
pub send_same : {I O E L C : Type 0} (told : Bool) (tells : Tells I O E) (live : TellsLive L C) (c d : SendCommand) (were are : ℕ) (old new : Shelf I O E L C) (status : Status)
    → c ≡ d → DoesSend told tells live c were are old new status → DoesSend told tells live d were are old new status
send_same told tells live c d were are old new status same does = subst (λ x. DoesSend told tells live x were are old new status) same does

keeps_around : {I O E L C : Type 0} (old : Shelf I O E L C) (c : SendCommand) → KeepsAround old old c
keeps_around old c = record {
  sources = λ n other. refl;
  source = inl refl;
  sinks = refl;
  links = record { others = λ place least. inl refl; first = λ place. inl refl };
  times = record { clocks = λ place other. refl; clock = inl refl; entropies = λ place other. refl; first = inl refl; undrawn = λ none. refl };
}

-- memory is refused before a sending is known
pub sends_nothing : {I O E L C : Type 0} (told : Bool) (tells : Tells I O E) (live : TellsLive L C) (c : SendCommand) (faults : ℕ) (old : Shelf I O E L C)
    → DoesSend told tells live c faults faults old old statuses.Memory
sends_nothing told tells live c faults old = record {
  ends = tt;
  sent = λ unused ran. absurd (ran refuses);
  unsent = λ unused refused. record { source = inl refl; links = λ place. inl refl; clock = inl refl };
  pieces = λ unused ran. absurd (ran refuses);
  around = λ unused. keeps_around old c;
  links_opened = λ unused ran. absurd (ran refuses);
  links_tried = λ unused. none_first old.opened_links _ unused.links;
  links_after = λ told same. refl;
  random = λ unused failed. absurd (cc (failed));
  complete = λ unused opened source b here told input none up. inr (inr (inr refl));
}

-- a host that doesn't tell
no_told : IsTrue false → ⊥
no_told e = cc

-- what is said to a host before changes nothing that it tells, and fails no call
pub does_after : {I O E L C : Type 0} (told : Bool) (tells : Tells I O E) (live : TellsLive L C) (c : SendCommand) (were between are : ℕ) (old mid new : Shelf I O E L C) (status : Status)
    → (IsTrue told → mid ≡ old) → between ≡ were → DoesSend told tells live c between are mid new status → DoesSend told tells live c were are old new status
does_after true tells live c were between are old mid new status same kept does =
    subst (λ n. DoesSend true tells live c n are old new status) kept (subst (λ s. DoesSend true tells live c between are s new status) (same refl) does)
does_after false tells live c were between are old mid new status same kept does = record {
  ends = does.ends;
  sent = λ unused ran. absurd (no_told unused.told);
  unsent = λ unused refused. absurd (no_told unused.told);
  pieces = λ unused ran. absurd (no_told unused.told);
  around = λ unused. absurd (no_told unused.told);
  links_opened = λ unused ran. absurd (no_told unused.told);
  links_tried = λ unused. absurd (no_told unused.told);
  links_after = λ told. absurd (no_told told);
  random = λ unused failed. absurd (no_told unused.told);
  complete = λ unused opened. absurd (no_told unused.told);
}

-- where that is refused nothing is begun
refused_as : (bad : HostBad) → CanRefuse (host_status bad)
refused_as hosts.Failed = inl refl
refused_as hosts.NoMemory = inr (inl refl)

refuses_still : {I O E L C : Type 0} (told : Bool) (tells : Tells I O E) (live : TellsLive L C) (c : SendCommand) (were are : ℕ) (old : Shelf I O E L C) (bad : HostBad)
    → HasHostCause {T = Unit} were are (Err bad) → DoesSend told tells live c were are old old (host_status bad)
refuses_still told tells live c were are old hosts.Failed cause = record {
  ends = tt;
  sent = λ unused ran. absurd (ran (refused_as hosts.Failed));
  unsent = λ unused refused. record { source = inl refl; links = λ place. inl refl; clock = inl refl };
  pieces = λ unused ran. absurd (ran (refused_as hosts.Failed));
  around = λ unused. keeps_around old c;
  links_opened = λ unused ran. absurd (ran (refused_as hosts.Failed));
  links_tried = λ unused. none_first old.opened_links _ unused.links;
  links_after = λ told same. refl;
  random = λ unused failed. absurd (cc (failed));
  complete = λ unused opened. absurd (opened cause);
}
refuses_still told tells live c were are old hosts.NoMemory cause = record {
  ends = tt;
  sent = λ unused ran. absurd (ran refuses);
  unsent = λ unused refused. record { source = inl refl; links = λ place. inl refl; clock = inl refl };
  pieces = λ unused ran. absurd (ran refuses);
  around = λ unused. keeps_around old c;
  links_opened = λ unused ran. absurd (ran refuses);
  links_tried = λ unused. none_first old.opened_links _ unused.links;
  links_after = λ told same. refl;
  random = λ unused failed. absurd (cc (failed));
  complete = λ unused opened source b here told input none up. inr (inr (inr refl));
}

refuses_with : {I O E L C : Type 0} (told : Bool) (tells : Tells I O E) (live : TellsLive L C) (c : SendCommand) (were are : ℕ) (old new : Shelf I O E L C) (bad : HostBad)
    → (IsTrue told → new ≡ old) → HasHostCause {T = Unit} were are (Err bad) → DoesSend told tells live c were are old new (host_status bad)
refuses_with true tells live c were are old new bad same cause =
    subst (λ s. DoesSend true tells live c were are old s (host_status bad)) (sym (same refl)) (refuses_still true tells live c were are old bad cause)
refuses_with false tells live c were are old new bad same cause = record {
  ends = (refuses_still false tells live c were are old bad cause).ends;
  sent = λ unused ran. absurd (no_told unused.told);
  unsent = λ unused refused. absurd (no_told unused.told);
  pieces = λ unused ran. absurd (no_told unused.told);
  around = λ unused. absurd (no_told unused.told);
  links_opened = λ unused ran. absurd (no_told unused.told);
  links_tried = λ unused. absurd (no_told unused.told);
  links_after = λ told. absurd (no_told told);
  random = λ unused failed. absurd (no_told unused.told);
  complete = λ unused opened. absurd (no_told unused.told);
}

pub refuses_before : {I O E L C : Type 0} (told : Bool) (tells : Tells I O E) (live : TellsLive L C) (c : SendCommand) (were are : ℕ) (old new : Shelf I O E L C) (bad : HostBad) (status : Status)
    → status ≡ host_status bad → (IsTrue told → new ≡ old) → HasHostCause {T = Unit} were are (Err bad) → DoesSend told tells live c were are old new status
refuses_before told tells live c were are old new bad status is same cause =
    subst (λ s. DoesSend told tells live c were are old new s) (sym is) (refuses_with told tells live c were are old new bad same cause)
