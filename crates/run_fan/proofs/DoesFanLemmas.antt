-- What a receiving of several flows does, by what its parts leave.
use Rattle.std.proofs.Common.{◌≡◌, ◌∙◌, ◌⊎◌, ◌<◌, ℕ, length, Some, Bool, refl, ap, subst, true, false, sym}
use mathlib.Core.Logic.{inl, inr}
use Rattle.std.specs.Prelude.{IsTrue, Err}
use Rattle.std.proofs.lemmas.Option.{slice_get_within}
use Rattle.outside_io.specs.Causes.{HasOpenCause}
use Rattle.outside_host.specs.Links.{AreFirstOf}
use Rattle.outside_host.specs.Shelf.{HasHostCause, Shelf}
use Rattle.outside_host.proofs.LinkOpeningLemmas.{none_first}
use Rattle.outside_host.specs.declared.host.HostBad.{HostBad}
use Rattle.outside_host.specs.declared.host.HostBad.TheVariants as hosts
use Rattle.outside_host.specs.declared.host.Place.TheVariants.{Here, Back}
use Rattle.rist_desk.specs.Desk.{is_cut_off}
use Rattle.rist_fan.specs.declared.flow.Came.{Came}
use Rattle.desk_run.specs.declared.ending.Ending.{Ending}
use Rattle.desk_run.specs.declared.ending.Ending.TheVariants as endings
use Rattle.desk_run.specs.Run.{timed_links}
use Rattle.desk_run.specs.Turns.{ending_by}
use Rattle.fan_run.specs.Run.{is_any_cut}
use Rattle.rist_words.specs.CommandLine.{FanCommand}
use Rattle.rist_words.specs.Ranges.{IsInFan}
use Rattle.run_parts.specs.Causes.{CanRefuse, fault_of}
use Rattle.run_parts.specs.Complete.{StaysUp}
use Rattle.run_parts.specs.Hosts.{IsUnused}
use Rattle.run_parts.specs.Objects.{Tells, TellsLive}
use Rattle.run_parts.specs.Sealing.{FailedAt}
use Rattle.run_parts.specs.Statuses.{host_status}
use Rattle.run_parts.specs.declared.status.Status.{Status}
use Rattle.run_parts.specs.declared.status.Status.TheVariants as statuses
use Rattle.run_parts.proofs.RefusalLemmas.{is_refused, refuses}
use Rattle.run_fan.specs.Complete.{CompletesFanning, IsHeard, NoneFailedBut}
use Rattle.run_fan.specs.DoesFan.{DoesFan}
use Rattle.run_fan.specs.Ends.{IsFanEnd, fan_status}
use Rattle.run_fan.specs.Fanned.{Fanned, Unfanned}
use Rattle.run_fan.specs.Frame.{KeepsAroundSinks, OpensSinksFirst, links_fanned}
use Rattle.run_fan.specs.Sessions.{limits_fanned}
use Rattle.run_fan.proofs.ReachedLemmas.{came_at, fanned_reached, flow_at, left_at, rose_at}
use Rattle.run_fan.proofs.RunLemmas.{any_at, each_link_failed}

-- ---- how it ends where nothing failed but links

module _ {I O E L C : Type 0} (tells : Tells I O E) (live : TellsLive L C) (old new : Shelf I O E L C) (c : FanCommand) (status : Status) (r : Fanned tells live old new c status) where
  some_same : {A : Type 0} (x y : A) → Some x ≡ Some y → x ≡ y
  some_same x y e = cc (e)

  -- some write failed where some place was cut off
  not_cut : NoneFailedBut tells old new c → is_any_cut r.came ≡ true → ⊥
  not_cut none any =
      let one = any_at (λ (x : Came). is_cut_off x.answer) r.came any in
      let low : one.0 < length c.ports = subst (λ n. one.0 < n) (r.run.places.1 ∙ r.places) (slice_get_within r.came one.0 one.1 one.2) in
      let here = came_at tells live old new c status r one.0 low in
      let same : here.0 ≡ one.1 = some_same here.0 one.1 (sym here.1 ∙ one.2) in
      let cut : is_cut_off here.0.answer ≡ true = ap (λ (x : Came). is_cut_off x.answer) same ∙ one.3 in
      let flow = flow_at tells live old new c status r one.0 low in
      let left = left_at tells live old new c status r one.0 low in
      none.writes one.0 low flow.0.sink left.0.sink (r.took one.0 flow.0 flow.1) (r.gave one.0 left.0 left.1) (rose_at tells live old new c status r one.0 low cut)

  -- one of the links did not fail
  not_down : StaysUp live.line old.links new.links (length c.links) → r.run.after ≡ endings.LinksDown → ⊥
  not_down stays down =
      let among : stays.place < length r.links_were = subst (λ n. stays.place < n) (sym r.link_count) stays.among in
      let f = each_link_failed live.moments live.line tells.contents tells.write_faults c (limits_fanned c) (timed_links r.links_were r.clocks_were) (timed_links r.links_are r.clocks_are) r.flows r.left r.came r.ending r.run
      (r.run.fits.down down).1 stays.place among in
      stays.up f.0 f.1 (r.links.took stays.place f.0 among ∙ ap Here f.2) (r.links.gave stays.place f.1 among ∙ ap Back f.3) f.4

  heard_after : (after : Ending) → r.run.after ≡ after → status ≡ fan_status after → IsFanEnd c status → StaysUp live.line old.links new.links (length c.links) → IsHeard c status
  heard_after endings.Done e is ends stays = inl is
  heard_after endings.Spent e is ends stays = inr (inl (is, subst (IsFanEnd c) is ends))
  heard_after endings.LinksDown e is ends stays = absurd (not_down stays e)
  heard_after endings.WriteFault e is ends stays = absurd (let sound = r.run.fits.no_fault in cc (e, sound))
  heard_after endings.TraceFull e is ends stays = absurd (subst (IsFanEnd c) is ends)
  heard_after (endings.Torn tear) e is ends stays = absurd (subst (IsFanEnd c) is ends)

  heard : IsFanEnd c status → NoneFailedBut tells old new c → StaysUp live.line old.links new.links (length c.links) → IsHeard c status
  heard ends none stays = by_cut (is_any_cut r.came) refl
    where
      by_cut : (b : Bool) → is_any_cut r.came ≡ b → IsHeard c status
      by_cut true e = absurd (not_cut none e)
      by_cut false e = heard_after r.run.after refl (r.answer ∙ ap fan_status (r.run.ending_is ∙ ap (λ b. ending_by b r.run.after) e)) ends stays

refused_heard : (c : FanCommand) (s : Status) → (s ≡ statuses.OpenFault → ⊥) → (s ≡ statuses.EntropyFault → ⊥) → CanRefuse s → IsHeard c s
refused_heard c s opened words (inl e) = absurd (opened e)
refused_heard c s opened words (inr (inl e)) = inr (inr e)
refused_heard c s opened words (inr (inr e)) = absurd (words e)

completes : {I O E L C : Type 0} (tells : Tells I O E) (live : TellsLive L C) (old new : Shelf I O E L C) (c : FanCommand) (status : Status) → IsFanEnd c status
    → (status ≡ statuses.OpenFault → ⊥) → (status ≡ statuses.EntropyFault → FailedAt tells old new) → ((CanRefuse status → ⊥) → Fanned tells live old new c status)
    → CompletesFanning tells live.line old new c status
completes tells live old new c status ends opened words fanned none stays = by_refusal (is_refused status)
  where
    by_refusal : CanRefuse status ⊎ (CanRefuse status → ⊥) → IsHeard c status
    by_refusal (inl refused) = refused_heard c status opened (λ e. none.words (words e)) refused
    by_refusal (inr ran) = heard tells live old new c status (fanned ran) ends none stays

-- ---- together

pub does_fan : {I O E L C : Type 0} (told : Bool) (tells : Tells I O E) (live : TellsLive L C) (c : FanCommand) (were are : ℕ) (old new : Shelf I O E L C) (status : Status)
    → IsInFan c
    → IsFanEnd c status
    → HasOpenCause (fault_of status) were are
    → (IsUnused told old → (CanRefuse status → ⊥) → Fanned tells live old new c status)
    → (IsUnused told old → CanRefuse status → Unfanned old new c)
    → (IsUnused told old → KeepsAroundSinks old new c)
    → (IsTrue told → OpensSinksFirst old new c)
    → (IsUnused told old → (CanRefuse status → ⊥) → new.opened_links ≡ links_fanned c)
    → (IsUnused told old → AreFirstOf new.opened_links (links_fanned c))
    → (IsUnused told old → status ≡ statuses.EntropyFault → FailedAt tells old new)
    → DoesFan told tells live c were are old new status
does_fan told tells live c were are old new status range ends cause fanned unfanned around order links tried random = record {
  ends = ends;
  fanned = fanned;
  unfanned = unfanned;
  reached = λ unused ran. fanned_reached tells live old new c status (fanned unused ran) range.receiver.some_delay;
  around = around;
  order = order;
  links_opened = links;
  links_tried = tried;
  random = random;
  spent = λ unused is. subst (IsFanEnd c) is ends;
  complete = λ unused opened.
      completes tells live old new c status ends
      (λ e. opened (subst (λ s. HasOpenCause (fault_of s) were are) e cause))
      (λ failed. random unused failed) (λ ran. fanned unused ran);
}

-- the same line, under two names
pub fan_same : {I O E L C : Type 0} (told : Bool) (tells : Tells I O E) (live : TellsLive L C) (c d : FanCommand) (were are : ℕ) (old new : Shelf I O E L C) (status : Status)
    → c ≡ d → DoesFan told tells live c were are old new status → DoesFan told tells live d were are old new status
fan_same told tells live c d were are old new status same does = subst (λ x. DoesFan told tells live x were are old new status) same does

around_nothing : {I O E L C : Type 0} (old : Shelf I O E L C) (c : FanCommand) → KeepsAroundSinks old old c
around_nothing old c = record {
  sources = refl;
  sinks = λ name none. refl;
  outputs = λ v less. inl refl;
  links = record { others = λ place least. inl refl; first = λ place. inl refl };
  clocks = record { others = λ place least. inl refl; first = λ place. inl refl };
  words = record { others = λ place other. refl; first = inl refl; undrawn = λ none. refl };
}

nothing_first : {I O E L C : Type 0} (old : Shelf I O E L C) (c : FanCommand) → OpensSinksFirst old old c
nothing_first old c = record { order = λ i j default less inside same. refl; alone = λ v less same. refl }

unfanned_nothing : {I O E L C : Type 0} (old : Shelf I O E L C) (c : FanCommand) → Unfanned old old c
unfanned_nothing old c = record { sinks = λ v less. inl refl; links = λ place. inl refl; clocks = λ place. inl refl; report = refl }

-- where memory is refused nothing is begun
memory_refuses : {I O E L C : Type 0} (told : Bool) (tells : Tells I O E) (live : TellsLive L C) (c : FanCommand) (were are : ℕ) (old : Shelf I O E L C)
    → DoesFan told tells live c were are old old statuses.Memory
memory_refuses told tells live c were are old = record {
  ends = tt;
  fanned = λ unused ran. absurd (ran refuses);
  unfanned = λ unused refused. unfanned_nothing old c;
  reached = λ unused ran. absurd (ran refuses);
  around = λ unused. around_nothing old c;
  order = λ told. nothing_first old c;
  links_opened = λ unused ran. absurd (ran refuses);
  links_tried = λ unused. none_first old.opened_links _ unused.links;
  random = λ unused failed. absurd (cc (failed));
  spent = λ unused is. absurd (cc (is));
  complete = λ unused opened none stays. inr (inr refl);
}

-- memory is refused before the line is known
pub fans_nothing : {I O E L C : Type 0} (told : Bool) (tells : Tells I O E) (live : TellsLive L C) (c : FanCommand) (faults : ℕ) (old : Shelf I O E L C)
    → DoesFan told tells live c faults faults old old statuses.Memory
fans_nothing told tells live c faults old = memory_refuses told tells live c faults faults old

-- a host that doesn't tell
no_told : IsTrue false → ⊥
no_told e = cc

untold : {I O E L C : Type 0} (tells : Tells I O E) (live : TellsLive L C) (c : FanCommand) (were are : ℕ) (old new : Shelf I O E L C) (status : Status) → IsFanEnd c status → DoesFan false tells live c were are old new status
untold tells live c were are old new status ends = record {
  ends = ends;
  fanned = λ unused ran. absurd (no_told unused.told);
  unfanned = λ unused refused. absurd (no_told unused.told);
  reached = λ unused ran. absurd (no_told unused.told);
  around = λ unused. absurd (no_told unused.told);
  order = λ told. absurd (no_told told);
  links_opened = λ unused ran. absurd (no_told unused.told);
  links_tried = λ unused. absurd (no_told unused.told);
  random = λ unused failed. absurd (no_told unused.told);
  spent = λ unused is. absurd (no_told unused.told);
  complete = λ unused opened. absurd (no_told unused.told);
}

-- what is said to a host before changes nothing that it tells, and fails no call
pub does_after : {I O E L C : Type 0} (told : Bool) (tells : Tells I O E) (live : TellsLive L C) (c : FanCommand) (were between are : ℕ) (old mid new : Shelf I O E L C) (status : Status)
    → (IsTrue told → mid ≡ old) → between ≡ were → DoesFan told tells live c between are mid new status → DoesFan told tells live c were are old new status
does_after true tells live c were between are old mid new status same kept does =
    subst (λ n. DoesFan true tells live c n are old new status) kept (subst (λ s. DoesFan true tells live c between are s new status) (same refl) does)
does_after false tells live c were between are old mid new status same kept does = untold tells live c were are old new status does.ends

-- where that is refused nothing is begun
opened_refuses : CanRefuse statuses.OpenFault
opened_refuses = inl refl

refuses_still : {I O E L C : Type 0} (told : Bool) (tells : Tells I O E) (live : TellsLive L C) (c : FanCommand) (were are : ℕ) (old : Shelf I O E L C) (bad : HostBad)
    → HasHostCause {T = Unit} were are (Err bad) → DoesFan told tells live c were are old old (host_status bad)
refuses_still told tells live c were are old hosts.Failed cause = record {
  ends = tt;
  fanned = λ unused ran. absurd (ran opened_refuses);
  unfanned = λ unused refused. unfanned_nothing old c;
  reached = λ unused ran. absurd (ran opened_refuses);
  around = λ unused. around_nothing old c;
  order = λ told. nothing_first old c;
  links_opened = λ unused ran. absurd (ran opened_refuses);
  links_tried = λ unused. none_first old.opened_links _ unused.links;
  random = λ unused failed. absurd (cc (failed));
  spent = λ unused is. absurd (cc (is));
  complete = λ unused opened. absurd (opened cause);
}
refuses_still told tells live c were are old hosts.NoMemory cause = memory_refuses told tells live c were are old

bad_ends : (c : FanCommand) (bad : HostBad) → IsFanEnd c (host_status bad)
bad_ends c hosts.Failed = tt
bad_ends c hosts.NoMemory = tt

refuses_with : {I O E L C : Type 0} (told : Bool) (tells : Tells I O E) (live : TellsLive L C) (c : FanCommand) (were are : ℕ) (old new : Shelf I O E L C) (bad : HostBad)
    → (IsTrue told → new ≡ old) → HasHostCause {T = Unit} were are (Err bad) → DoesFan told tells live c were are old new (host_status bad)
refuses_with true tells live c were are old new bad same cause =
    subst (λ s. DoesFan true tells live c were are old s (host_status bad)) (sym (same refl)) (refuses_still true tells live c were are old bad cause)
refuses_with false tells live c were are old new bad same cause = untold tells live c were are old new (host_status bad) (bad_ends c bad)

pub refuses_before : {I O E L C : Type 0} (told : Bool) (tells : Tells I O E) (live : TellsLive L C) (c : FanCommand) (were are : ℕ) (old new : Shelf I O E L C) (bad : HostBad) (status : Status)
    → status ≡ host_status bad → (IsTrue told → new ≡ old) → HasHostCause {T = Unit} were are (Err bad) → DoesFan told tells live c were are old new status
refuses_before told tells live c were are old new bad status is same cause =
    subst (λ s. DoesFan told tells live c were are old new s) (sym is) (refuses_with told tells live c were are old new bad same cause)
