-- What a receiving does, by what its parts leave.
use Rattle.std.proofs.Common.{◌≡◌, ℕ, Bool, refl, subst, true, false, sym}
use mathlib.Core.Logic.{inl, inr}
use Rattle.std.specs.Prelude.{IsTrue, Err}
use Rattle.outside_io.specs.Causes.{HasOpenCause}
use Rattle.outside_host.specs.Links.{AreFirstOf}
use Rattle.outside_host.proofs.LinkOpeningLemmas.{none_first}
use Rattle.outside_host.specs.Shelf.{HasHostCause, Shelf}
use Rattle.outside_host.specs.declared.host.HostBad.{HostBad}
use Rattle.outside_host.specs.declared.host.HostBad.TheVariants as hosts
use Rattle.run_parts.specs.Statuses.{host_status}
use Rattle.rist_words.specs.CommandLine.{RecvCommand}
use Rattle.rist_words.specs.Ranges.{IsInRecv}
use Rattle.run_parts.specs.Causes.{CanRefuse, fault_of}
use Rattle.run_receive.specs.DoesReceive.{DoesReceive}
use Rattle.run_receive.specs.Ends.{IsReceiveEnd}
use Rattle.run_receive.specs.Frame.{KeepsAroundSink, OpensLinksAfterSink, links_received}
use Rattle.run_parts.specs.Objects.{Tells, TellsLive}
use Rattle.run_receive.specs.Reached.{IsPlayedOut}
use Rattle.run_receive.specs.Received.{Received, Unreceived}
use Rattle.run_parts.specs.Sealing.{FailedAt}
use Rattle.run_parts.specs.Hosts.{IsUnused}
use Rattle.run_parts.specs.declared.status.Status.{Status}
use Rattle.run_parts.specs.declared.status.Status.TheVariants as statuses
use Rattle.run_receive.proofs.CutOffLemmas.{received_part}
use Rattle.run_receive.proofs.HeardLemmas.{received_completes, received_spent}
use Rattle.run_parts.proofs.RefusalLemmas.{refuses}
use Rattle.run_receive.proofs.ReachedLemmas.{received_reached}

pub does_receive : {I O E L C : Type 0} (told : Bool) (tells : Tells I O E) (live : TellsLive L C) (c : RecvCommand) (were are : ℕ) (old new : Shelf I O E L C) (status : Status)
    → IsInRecv c
    → IsReceiveEnd c status
    → HasOpenCause (fault_of status) were are
    → (IsUnused told old → (CanRefuse status → ⊥) → Received tells live old new c status)
    → (IsUnused told old → CanRefuse status → Unreceived old new c)
    → (IsUnused told old → KeepsAroundSink old new c)
    → (IsUnused told old → (CanRefuse status → ⊥) → new.opened_links ≡ links_received c)
    → (IsUnused told old → AreFirstOf new.opened_links (links_received c))
    → (IsTrue told → OpensLinksAfterSink old new c)
    → (IsUnused told old → status ≡ statuses.EntropyFault → FailedAt tells old new)
    → DoesReceive told tells live c were are old new status
does_receive told tells live c were are old new status range ends cause received unreceived around links tried after random = record {
  ends = ends;
  received = received;
  unreceived = unreceived;
  reached = λ unused out. received_reached _ _ old new c status out (λ ran. received unused ran);
  cut = λ unused ran. received_part _ _ old new c status range.receiver.some_delay (received unused ran);
  around = around;
  links_opened = links;
  links_tried = tried;
  links_after = after;
  random = random;
  spent = λ unused is. received_spent _ _ old new c status (λ ran. received unused ran) is;
  complete = λ unused opened.
      received_completes _ _ old new c status
      (λ e. opened (subst (λ s. HasOpenCause (fault_of s) were are) e cause))
      (λ failed. random unused failed) (λ ran. received unused ran);
}

-- the same line, under two names
pub receive_same : {I O E L C : Type 0} (told : Bool) (tells : Tells I O E) (live : TellsLive L C) (c d : RecvCommand) (were are : ℕ) (old new : Shelf I O E L C) (status : Status)
    → c ≡ d → DoesReceive told tells live c were are old new status → DoesReceive told tells live d were are old new status
receive_same told tells live c d were are old new status same does = subst (λ x. DoesReceive told tells live x were are old new status) same does

around_nothing : {I O E L C : Type 0} (old : Shelf I O E L C) (c : RecvCommand) → KeepsAroundSink old old c
around_nothing old c = record {
  sources = refl;
  sinks = λ n other. refl;
  sink = inl refl;
  links = record { others = λ place least. inl refl; first = λ place. inl refl };
  clocks = record { others = λ place least. inl refl; first = λ place. inl refl };
  words = record { others = λ place other. refl; first = inl refl; undrawn = λ none. refl };
}

not_played : IsPlayedOut statuses.Memory → ⊥
not_played (inl e) = cc
not_played (inr e) = cc

-- memory is refused before a receiving is known
pub receives_nothing : {I O E L C : Type 0} (told : Bool) (tells : Tells I O E) (live : TellsLive L C) (c : RecvCommand) (faults : ℕ) (old : Shelf I O E L C)
    → DoesReceive told tells live c faults faults old old statuses.Memory
receives_nothing told tells live c faults old = record {
  ends = tt;
  received = λ unused ran. absurd (ran refuses);
  unreceived = λ unused refused. record { sink = inl refl; links = λ place. inl refl; clocks = λ place. inl refl; report = refl };
  reached = λ unused out. absurd (not_played out);
  cut = λ unused ran. absurd (ran refuses);
  around = λ unused. around_nothing old c;
  links_opened = λ unused ran. absurd (ran refuses);
  links_tried = λ unused. none_first old.opened_links _ unused.links;
  links_after = λ told same. refl;
  random = λ unused failed. absurd (cc (failed));
  spent = λ unused is. absurd (cc (is));
  complete = λ unused opened none stays. inr (inr (inl refl));
}

not_played_at_open : IsPlayedOut statuses.OpenFault → ⊥
not_played_at_open (inl e) = cc
not_played_at_open (inr e) = cc

-- a host that doesn't tell
no_told : IsTrue false → ⊥
no_told e = cc

-- what is said to a host before changes nothing that it tells, and fails no call
pub does_after : {I O E L C : Type 0} (told : Bool) (tells : Tells I O E) (live : TellsLive L C) (c : RecvCommand) (were between are : ℕ) (old mid new : Shelf I O E L C) (status : Status)
    → (IsTrue told → mid ≡ old) → between ≡ were → DoesReceive told tells live c between are mid new status → DoesReceive told tells live c were are old new status
does_after true tells live c were between are old mid new status same kept does =
    subst (λ n. DoesReceive true tells live c n are old new status) kept (subst (λ s. DoesReceive true tells live c between are s new status) (same refl) does)
does_after false tells live c were between are old mid new status same kept does = record {
  ends = does.ends;
  received = λ unused ran. absurd (no_told unused.told);
  unreceived = λ unused refused. absurd (no_told unused.told);
  reached = λ unused out. absurd (no_told unused.told);
  cut = λ unused ran. absurd (no_told unused.told);
  around = λ unused. absurd (no_told unused.told);
  links_opened = λ unused ran. absurd (no_told unused.told);
  links_tried = λ unused. absurd (no_told unused.told);
  links_after = λ told. absurd (no_told told);
  random = λ unused failed. absurd (no_told unused.told);
  spent = λ unused is. absurd (no_told unused.told);
  complete = λ unused opened. absurd (no_told unused.told);
}

-- where that is refused nothing is begun
refused_as : (bad : HostBad) → CanRefuse (host_status bad)
refused_as hosts.Failed = inl refl
refused_as hosts.NoMemory = inr (inl refl)

refuses_still : {I O E L C : Type 0} (told : Bool) (tells : Tells I O E) (live : TellsLive L C) (c : RecvCommand) (were are : ℕ) (old : Shelf I O E L C) (bad : HostBad)
    → HasHostCause {T = Unit} were are (Err bad) → DoesReceive told tells live c were are old old (host_status bad)
refuses_still told tells live c were are old hosts.Failed cause = record {
  ends = tt;
  received = λ unused ran. absurd (ran (refused_as hosts.Failed));
  unreceived = λ unused refused. record { sink = inl refl; links = λ place. inl refl; clocks = λ place. inl refl; report = refl };
  reached = λ unused out. absurd (not_played_at_open out);
  cut = λ unused ran. absurd (ran (refused_as hosts.Failed));
  around = λ unused. around_nothing old c;
  links_opened = λ unused ran. absurd (ran (refused_as hosts.Failed));
  links_tried = λ unused. none_first old.opened_links _ unused.links;
  links_after = λ told same. refl;
  random = λ unused failed. absurd (cc (failed));
  spent = λ unused is. absurd (cc (is));
  complete = λ unused opened. absurd (opened cause);
}
refuses_still told tells live c were are old hosts.NoMemory cause = record {
  ends = tt;
  received = λ unused ran. absurd (ran refuses);
  unreceived = λ unused refused. record { sink = inl refl; links = λ place. inl refl; clocks = λ place. inl refl; report = refl };
  reached = λ unused out. absurd (not_played out);
  cut = λ unused ran. absurd (ran refuses);
  around = λ unused. around_nothing old c;
  links_opened = λ unused ran. absurd (ran refuses);
  links_tried = λ unused. none_first old.opened_links _ unused.links;
  links_after = λ told same. refl;
  random = λ unused failed. absurd (cc (failed));
  spent = λ unused is. absurd (cc (is));
  complete = λ unused opened none stays. inr (inr (inl refl));
}

refuses_with : {I O E L C : Type 0} (told : Bool) (tells : Tells I O E) (live : TellsLive L C) (c : RecvCommand) (were are : ℕ) (old new : Shelf I O E L C) (bad : HostBad)
    → (IsTrue told → new ≡ old) → HasHostCause {T = Unit} were are (Err bad) → DoesReceive told tells live c were are old new (host_status bad)
refuses_with true tells live c were are old new bad same cause =
    subst (λ s. DoesReceive true tells live c were are old s (host_status bad)) (sym (same refl)) (refuses_still true tells live c were are old bad cause)
refuses_with false tells live c were are old new bad same cause = record {
  ends = (refuses_still false tells live c were are old bad cause).ends;
  received = λ unused ran. absurd (no_told unused.told);
  unreceived = λ unused refused. absurd (no_told unused.told);
  reached = λ unused out. absurd (no_told unused.told);
  cut = λ unused ran. absurd (no_told unused.told);
  around = λ unused. absurd (no_told unused.told);
  links_opened = λ unused ran. absurd (no_told unused.told);
  links_tried = λ unused. absurd (no_told unused.told);
  links_after = λ told. absurd (no_told told);
  random = λ unused failed. absurd (no_told unused.told);
  spent = λ unused is. absurd (no_told unused.told);
  complete = λ unused opened. absurd (no_told unused.told);
}

pub refuses_before : {I O E L C : Type 0} (told : Bool) (tells : Tells I O E) (live : TellsLive L C) (c : RecvCommand) (were are : ℕ) (old new : Shelf I O E L C) (bad : HostBad) (status : Status)
    → status ≡ host_status bad → (IsTrue told → new ≡ old) → HasHostCause {T = Unit} were are (Err bad) → DoesReceive told tells live c were are old new status
refuses_before told tells live c were are old new bad status is same cause =
    subst (λ s. DoesReceive told tells live c were are old new s) (sym is) (refuses_with told tells live c were are old new bad same cause)
