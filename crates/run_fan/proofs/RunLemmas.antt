-- How a run over several flows ends, as a status.
use Rattle.std.proofs.Common.{◌≡◌, ◌∙◌, ◌⊎◌, ◌<◌, ℕ, suc, List, [], ◌∷◌, length, map, slice_get, get_or, Bool, true, false, ◌||◌, Option, None, Some}
use Rattle.std.proofs.Common.{is_some, refl, ap, sym, subst}
use mathlib.Core.Logic.{inl, inr}
use Rattle.std.specs.Prelude.{unwrap_or}
use Rattle.std.specs.List.{All, list_any}
use Rattle.std.specs.Option.{option_map}
use Rattle.std.proofs.lemmas.List.{length-map, get_or-map}
use Rattle.std.proofs.lemmas.List.Elements.{All-get_or}
use Rattle.std.proofs.lemmas.List.Sums.{AllPass-from_list_all}
use Rattle.std.proofs.lemmas.Option.{get_or_from_slice_get, slice_get_within}
use Rattle.outside_io.specs.Causes.{Rose, RoseWhere}
use Rattle.outside_net.specs.Links.{LinkTells}
use Rattle.psk_seal.specs.Sealer.{SealerState}
use Rattle.rist_wire.specs.Writing.{ShutterState}
use Rattle.rist_desk.specs.declared.ended.Ended.{Ended}
use Rattle.rist_desk.specs.declared.ended.Ended.TheVariants as ends
use Rattle.rist_desk.specs.declared.worker.ServingLimits.{ServingLimits}
use Rattle.rist_desk.specs.declared.worker.Worker.{Worker}
use Rattle.rist_desk.specs.Desk.{Given, nothing_given}
use Rattle.rist_desk.specs.Inside.Going.{is_link_failure}
use Rattle.rist_fan.specs.declared.flow.Came.{Came}
use Rattle.rist_fan.specs.declared.flow.Flow.{Flow}
use Rattle.fan_desk.specs.Made.{IsSomeKeyed}
use Rattle.fan_desk.specs.Origin.{given_at, given_of}
use Rattle.desk_run.specs.declared.ending.Ending.{Ending}
use Rattle.desk_run.specs.declared.ending.Ending.TheVariants as endings
use Rattle.desk_run.specs.Endings.{all_workers, any_worker, is_link_failed, is_spent, is_without_room}
use Rattle.desk_run.specs.Run.{TimedLinks}
use Rattle.desk_run.specs.Turns.{ending_by}
use Rattle.desk_run.specs.Workers.{link_of}
use Rattle.fan_run.specs.Run.{ReceivesFlows, ToldRows, flows_of, is_any_cut}
use Rattle.rist_words.specs.CommandLine.{FanCommand}
use Rattle.run_parts.specs.Sealing.{IsFreshFor}
use Rattle.run_parts.specs.Sessions.{session_read}
use Rattle.run_parts.specs.declared.status.Status.TheVariants as statuses
use Rattle.run_parts.proofs.PlaceLemmas.{at_place}
use Rattle.run_fan.specs.Ends.{IsFanEnd, fan_status}
use Rattle.run_fan.specs.Sessions.{IsSetAt}

-- ---- lists

-- where a test passes of some of a list, it passes at a place
pub any_at : {A : Type 0} (p : A → Bool) (xs : List A) → list_any p xs ≡ true → (v : ℕ) × (x : A) × (slice_get xs v ≡ Some x) × (p x ≡ true)
any_at p [] any = absurd (cc (any))
any_at {A} p (x ∷ xs) any = by_first (p x) refl (λ rest. any_at p xs rest) any
  where
    by_first : (b : Bool) → p x ≡ b → (list_any p xs ≡ true → (v : ℕ) × (y : A) × (slice_get xs v ≡ Some y) × (p y ≡ true)) → (b || list_any p xs) ≡ true
        → (v : ℕ) × (y : A) × (slice_get (x ∷ xs) v ≡ Some y) × (p y ≡ true)
    by_first true first behind rest = (0, x, refl, first)
    by_first false first behind rest = let there = behind rest in (suc there.0, there.1, there.2, there.3)

-- ---- workers

spent_is : (end : Option Ended) → is_spent end ≡ true → end ≡ Some ends.Spent
spent_is None is = absurd (cc (is))
spent_is (Some ends.End) is = absurd (cc (is))
spent_is (Some ends.Turns) is = absurd (cc (is))
spent_is (Some ends.Idle) is = absurd (cc (is))
spent_is (Some ends.Failed) is = absurd (cc (is))
spent_is (Some ends.Stopped) is = absurd (cc (is))
spent_is (Some ends.WriteFault) is = absurd (cc (is))
spent_is (Some ends.Spent) is = refl
spent_is (Some ends.TraceFull) is = absurd (cc (is))

full_is : (end : Option Ended) → is_without_room end ≡ true → end ≡ Some ends.TraceFull
full_is None is = absurd (cc (is))
full_is (Some ends.End) is = absurd (cc (is))
full_is (Some ends.Turns) is = absurd (cc (is))
full_is (Some ends.Idle) is = absurd (cc (is))
full_is (Some ends.Failed) is = absurd (cc (is))
full_is (Some ends.Stopped) is = absurd (cc (is))
full_is (Some ends.WriteFault) is = absurd (cc (is))
full_is (Some ends.Spent) is = absurd (cc (is))
full_is (Some ends.TraceFull) is = refl

same_failure : (e : Ended) → is_link_failed (Some e) ≡ is_link_failure (Some e)
same_failure ends.End = refl
same_failure ends.Turns = refl
same_failure ends.Idle = refl
same_failure ends.Failed = refl
same_failure ends.Stopped = refl
same_failure ends.WriteFault = refl
same_failure ends.Spent = refl
same_failure ends.TraceFull = refl

pub rose_by : (b : Bool) (before now : ℕ) → b ≡ true → RoseWhere b before now → Rose before now
rose_by b before now is rose = subst (λ x. RoseWhere x before now) is rose

-- what a part of a worker is, at its place
pub worker_part : {L C U X : Type 0} (part : Worker L C U → X) (ws : List (Worker L C U)) (xs : List X) (i : ℕ) (w : Worker L C U) → map part ws ≡ xs → i < length ws → slice_get ws i ≡ Some w
    → get_or xs i (part w) ≡ part w
worker_part part ws xs i w are less here =
    ap (λ l. get_or l i (part w)) (sym are) ∙ (get_or-map part ws i w (part w) less ∙ ap part (get_or_from_slice_get ws i w w here))

-- what was given of a place
pub given_is : {K : Type 0} (contents : K → Option (List ℕ)) (faults : K → ℕ) (flows : List (Flow K)) (v : ℕ) (flow : Flow K) → slice_get flows v ≡ Some flow → given_at contents faults flows v ≡ given_of contents faults flow
given_is contents faults flows v flow at = ap (λ o. unwrap_or (option_map (given_of contents faults) o) nothing_given) at

module _ {K L C : Type 0} (moments : C → Option (ℕ → ℕ)) (tells : LinkTells L) (contents : K → Option (List ℕ)) (faults : K → ℕ) (c : FanCommand) (limits : ServingLimits) (was is : TimedLinks L C)
    (flows left : List (Flow K)) (came : List Came) (ending : Ending)
    (run : ReceivesFlows moments tells contents faults (flows_of contents faults flows c.ports) (session_read c.session) limits was is left came ending) where
  -- a worker before it was served
  before_at : (link : ℕ) (after : Worker L C ToldRows) → slice_get run.are link ≡ Some after → (before : Worker L C ToldRows) × (slice_get run.were link ≡ Some before)
  before_at link after at = at_place run.were link (subst (λ n. link < n) run.as_many (slice_get_within run.are link after at))

  -- no worker was in want of room
  no_room : any_worker is_without_room run.are ≡ true → ⊥
  no_room any =
      let one = any_at (λ (w : Worker L C ToldRows). is_without_room w.end) run.are any in
      let before = before_at one.0 one.1 one.2 in
      (run.served one.0 before.0 one.1 before.1 one.2).full (full_is one.1.end one.3)

  -- where a worker was in want of pairs, some place has a sealer
  some_keyed : any_worker is_spent run.are ≡ true → IsSomeKeyed (given_at contents faults flows)
  some_keyed any =
      let one = any_at (λ (w : Worker L C ToldRows). is_spent w.end) run.are any in
      let before = before_at one.0 one.1 one.2 in
      (run.served one.0 before.0 one.1 before.1 one.2).spent (spent_is one.1.end one.3)

  -- where each link failed, the count of each rose
  pub each_link_failed : all_workers is_link_failed run.are ≡ true → (place : ℕ) → place < length was.links
      → (before : L) × (after : L) × (get_or was.links place before ≡ before) × (get_or is.links place after ≡ after) × Rose (tells.faults before) (tells.faults after)
  each_link_failed failed place among =
      let many : length run.were ≡ length was.links = sym (length-map run.were link_of) ∙ ap length run.links_had in
      let less : place < length run.were = subst (λ n. place < n) (sym many) among in
      let later : place < length run.are = subst (λ n. place < n) (sym run.as_many) less in
      let before = at_place run.were place less in
      let after = at_place run.are place later in
      let served = run.served place before.0 after.0 before.1 after.1 in
      let end : is_link_failed (Some served.made.end) ≡ true =
      ap is_link_failed (sym served.made.ended) ∙ (ap (λ (w : Worker L C ToldRows). is_link_failed w.end) (sym (get_or_from_slice_get run.are place after.0 after.0 after.1))
      ∙ AllPass-from_list_all (λ (w : Worker L C ToldRows). is_link_failed w.end) run.are failed place after.0 later) in
      let rose : Rose (tells.faults before.0.link) (tells.faults after.0.link) =
      rose_by (is_link_failure (Some served.made.end)) (tells.faults before.0.link) (tells.faults after.0.link) (sym (same_failure served.made.end) ∙ end) served.made.failed_cause in
      (before.0.link, after.0.link, worker_part link_of run.were was.links place before.0 run.links_had less before.1, worker_part link_of run.are is.links place after.0 run.links_have later after.1, rose)

  module _ (sealers : List (Option SealerState)) (many : length flows ≡ length sealers) (fresh : All (IsFreshFor c.session) sealers)
      (set : (v : ℕ) (flow : Flow K) (sealer : Option SealerState) → slice_get flows v ≡ Some flow → slice_get sealers v ≡ Some sealer → IsSetAt c v sealer flow.receiver) where
    keyed_at : (v : ℕ) (flow : Flow K) → slice_get flows v ≡ Some flow → is_some flow.receiver.reporter.shutter.sealer ≡ true → is_some c.session.pass ≡ true
    keyed_at v flow at keyed =
        let one = at_place sealers v (subst (λ n. v < n) many (slice_get_within flows v flow at)) in
        let same : flow.receiver.reporter.shutter.sealer ≡ one.0 = ap (λ (s : ShutterState). s.sealer) (set v flow one.0 at one.1).shutter in
        let paired : is_some one.0 ≡ is_some c.session.pass =
        (subst (IsFreshFor c.session) (get_or_from_slice_get sealers v one.0 one.0 one.1) (All-get_or (IsFreshFor c.session) sealers v one.0 (slice_get_within sealers v one.0 one.1) fresh)).paired in
        sym paired ∙ (ap is_some (sym same) ∙ keyed)

    pass_where : IsSomeKeyed (given_at contents faults flows) → is_some c.session.pass ≡ true
    pass_where k = by_place (slice_get flows k.0) refl
      where
        by_place : (o : Option (Flow K)) → slice_get flows k.0 ≡ o → is_some c.session.pass ≡ true
        by_place None e =
            absurd (let none : is_some (given_at contents faults flows k.0).shutter.sealer ≡ false = ap (λ o. is_some (unwrap_or (option_map (given_of contents faults) o) nothing_given).shutter.sealer) e in let some = k.1 in cc (none, some))
        by_place (Some flow) e = keyed_at k.0 flow e (ap (λ (g : Given). is_some g.shutter.sealer) (sym (given_is contents faults flows k.0 flow e)) ∙ k.1)

    -- how it ended, where no write failed
    after_is : (after : Ending) → run.after ≡ after → IsFanEnd c (fan_status after)
    after_is endings.Done e = tt
    after_is endings.LinksDown e = tt
    after_is endings.WriteFault e = tt
    after_is endings.Spent e = pass_where (some_keyed (run.fits.spent e))
    after_is endings.TraceFull e = absurd (no_room (run.fits.full e))
    after_is (endings.Torn tear) e = absurd (run.fits.whole tear e)

    pub ends_fan : IsFanEnd c (fan_status ending)
    ends_fan = subst (λ e. IsFanEnd c (fan_status e)) (sym run.ending_is) (by_cut (is_any_cut came))
      where
        by_cut : (b : Bool) → IsFanEnd c (fan_status (ending_by b run.after))
        by_cut true = tt
        by_cut false = after_is run.after refl

-- ---- statuses

pub run_not_refused : (ending : Ending) → (fan_status ending ≡ statuses.OpenFault) ⊎ ((fan_status ending ≡ statuses.Memory) ⊎ (fan_status ending ≡ statuses.EntropyFault)) → ⊥
run_not_refused endings.Done (inl e) = cc (e)
run_not_refused endings.Done (inr (inl e)) = cc (e)
run_not_refused endings.Done (inr (inr e)) = cc (e)
run_not_refused endings.WriteFault (inl e) = cc (e)
run_not_refused endings.WriteFault (inr (inl e)) = cc (e)
run_not_refused endings.WriteFault (inr (inr e)) = cc (e)
run_not_refused endings.Spent (inl e) = cc (e)
run_not_refused endings.Spent (inr (inl e)) = cc (e)
run_not_refused endings.Spent (inr (inr e)) = cc (e)
run_not_refused endings.TraceFull (inl e) = cc (e)
run_not_refused endings.TraceFull (inr (inl e)) = cc (e)
run_not_refused endings.TraceFull (inr (inr e)) = cc (e)
run_not_refused (endings.Torn tear) (inl e) = cc (e)
run_not_refused (endings.Torn tear) (inr (inl e)) = cc (e)
run_not_refused (endings.Torn tear) (inr (inr e)) = cc (e)
run_not_refused endings.LinksDown (inl e) = cc (e)
run_not_refused endings.LinksDown (inr (inl e)) = cc (e)
run_not_refused endings.LinksDown (inr (inr e)) = cc (e)
