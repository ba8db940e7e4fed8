-- What workers tell, by their traces' lists.
use Rattle.std.proofs.Common.{◌≡◌, ◌∷◌, ◌++◌, ◌<◌, ◌≤◌, ◌∙◌, ◌⊎◌, inl, inr, ℕ, suc, arith, List, [], length, map, reverse, Bool, true, false, Option, None, Some, is_some, unwrap_or, refl, ap, sym, subst, slice_get}
use Rattle.std.specs.Prelude.{slice_index_or, ◌||◌, ◌&&◌}
use Rattle.std.specs.List.{All}
use Rattle.std.specs.Option.{option_map}
use Rattle.std.proofs.lemmas.Option.{get_or_from_slice_get, slice_get_within, slice_get-map}
use Rattle.std.proofs.lemmas.List.{length-map, get_or-map}
use Rattle.std.proofs.lemmas.List.Elements.{All-map}
use Rattle.rist_ends.specs.declared.counts.Counts.{Counts}
use Rattle.rist_ends.specs.Counts.{AreCountsOf}
use Rattle.rist_ends.specs.Receiver.{settings_of}
use Rattle.rist_desk.specs.declared.ended.Ended.{Ended}
use Rattle.rist_desk.specs.declared.ended.Ended.TheVariants as ends
use Rattle.rist_desk.specs.declared.step.Step.{Step}
use Rattle.rist_desk.specs.declared.worker.ServingLimits.{ServingLimits}
use Rattle.rist_desk.specs.declared.worker.Worker.{Worker}
use Rattle.rist_desk.specs.Desk.{DeskState, Given, StandsFor}
use Rattle.rist_desk.specs.Legal.{phase_of}
use Rattle.outside_net.specs.Links.{LinkTells}
use Rattle.rist_desk.specs.Serving.{IsKeyed, ServesOn, TraceTells}
use Rattle.rist_desk.specs.Steps.{history_of}
use Rattle.rist_desk.proofs.ListLemmas.{one_more_told, reverse_more}
use Rattle.reorder_buffer.specs.declared.phase.Phase.TheVariants as phases
use Rattle.desk_run.specs.declared.seats.Seat.{Seat}
use Rattle.desk_run.specs.Endings.{any_worker, all_workers, is_spent, is_without_room, is_link_failed, IsSound, IsWithoutRoom, LacksRoom}
use Rattle.desk_run.specs.declared.ending.Ending.{Ending}
use Rattle.desk_run.specs.declared.ending.Ending.TheVariants as endings
use Rattle.rist_compare.specs.declared.tear.Tear.{Tear}
use Rattle.desk_run.proofs.EndLemmas.{whole_is_exact, whole_by_epochs}
use Rattle.desk_run.specs.Receiving.{own_lists, the_end, HasReceived, IsTorn, IsWhole}
use Rattle.desk_run.specs.Run.{told_lists, EndsAs, IsExact, IsNewWorker, Outside, Receives}
use Rattle.desk_run.specs.Setup.{Setup, IsSeat, given_to, no_steps}
use Rattle.desk_run.specs.Workers.{ToldTrace, told_trace, told_by, link_of, clock_of, seat_of, is_unended}

pub links_told : {L C U : Type 0} (tells : TraceTells U) (ws : List (Worker L C U)) → map link_of (map (told_by tells) ws) ≡ map link_of ws
links_told tells [] = refl
links_told tells (w ∷ ws) = ap (λ l. w.link ∷ l) (links_told tells ws)

pub clocks_told : {L C U : Type 0} (tells : TraceTells U) (ws : List (Worker L C U)) → map clock_of (map (told_by tells) ws) ≡ map clock_of ws
clocks_told tells [] = refl
clocks_told tells (w ∷ ws) = ap (λ l. w.clock ∷ l) (clocks_told tells ws)

pub lists_told : {L C U : Type 0} (tells : TraceTells U) (ws : List (Worker L C U)) → told_lists (map (told_by tells) ws) ≡ own_lists tells.list ws
lists_told tells [] = refl
lists_told tells (w ∷ ws) = ap (λ l. unwrap_or (tells.list w.trace) [] ∷ l) (lists_told tells ws)

pub any_told : {L C U : Type 0} (test : Option Ended → Bool) (tells : TraceTells U) (ws : List (Worker L C U)) → any_worker test (map (told_by tells) ws) ≡ any_worker test ws
any_told test tells [] = refl
any_told test tells (w ∷ ws) = ap (λ b. test w.end || b) (any_told test tells ws)

pub all_told : {L C U : Type 0} (test : Option Ended → Bool) (tells : TraceTells U) (ws : List (Worker L C U)) → all_workers test (map (told_by tells) ws) ≡ all_workers test ws
all_told test tells [] = refl
all_told test tells (w ∷ ws) = ap (λ b. test w.end && b) (all_told test tells ws)

-- the same worker in both lists, at its place
pub told_at : {L C U : Type 0} (tells : TraceTells U) (ws : List (Worker L C U)) (link : ℕ) (t : Worker L C ToldTrace) → slice_get (map (told_by tells) ws) link ≡ Some t
    → (w : Worker L C U) × (slice_get ws link ≡ Some w) × (told_by tells w ≡ t)
told_at {L} {C} {U} tells ws link t is = by_place (slice_get ws link) refl (sym (slice_get-map (told_by tells) ws link) ∙ is)
  where
    by_place : (o : Option (Worker L C U)) → slice_get ws link ≡ o → option_map (told_by tells) o ≡ Some t → (w : Worker L C U) × (slice_get ws link ≡ Some w) × (told_by tells w ≡ t)
    by_place None e f = absurd (cc (f))
    by_place (Some w) e f = (w, e, cc (f))

serves_told : {L C U : Type 0} (given : Given) (moments : C → Option (ℕ → ℕ)) (links : LinkTells L) (tells : TraceTells U) (limits : ServingLimits) (link : ℕ) (was is : Worker L C U)
    → ServesOn given moments links tells limits link was is → ServesOn given moments links told_trace limits link (told_by tells was) (told_by tells is)
serves_told given moments links tells limits link was is s = record {
  made = record {
    end = s.made.end;
    ended = s.made.ended;
    served = s.made.served;
    session = s.made.session;
    end_cause = s.made.end_cause;
    failed_cause = s.made.failed_cause;
  };
  full = s.full;
  spent = s.spent;
}

-- each worker was served, as far as it tells
pub all_served : {L C U : Type 0} (given : Given) (moments : C → Option (ℕ → ℕ)) (links : LinkTells L) (tells : TraceTells U) (limits : ServingLimits) (ws later : List (Worker L C U))
    → ((link : ℕ) (d : Worker L C U) → link < length ws → ServesOn given moments links tells limits link (slice_index_or ws link d) (slice_index_or later link d))
    → (link : ℕ) (was is : Worker L C ToldTrace) → slice_get (map (told_by tells) ws) link ≡ Some was → slice_get (map (told_by tells) later) link ≡ Some is
    → ServesOn given moments links told_trace limits link was is
all_served {L} {C} {U} given moments links tells limits ws later served link was is had has =
    let before = told_at tells ws link was had in
    let after = told_at tells later link is has in
    let there : ServesOn given moments links tells limits link before.0 after.0 =
    subst (λ x. ServesOn given moments links tells limits link x after.0) (get_or_from_slice_get ws link before.0 before.0 before.1)
    (subst (λ y. ServesOn given moments links tells limits link (slice_index_or ws link before.0) y) (get_or_from_slice_get later link after.0 before.0 after.1)
    (served link before.0 (slice_get_within ws link before.0 before.1))) in
    subst (λ x. ServesOn given moments links told_trace limits link x is) before.2
    (subst (λ y. ServesOn given moments links told_trace limits link (told_by tells before.0) y) after.2
    (serves_told given moments links tells limits link before.0 after.0 there))

-- workers in seats have done nothing yet
pub all_new : {L C U : Type 0} (tells : TraceTells U) (s : Setup) (seats : List (Seat U)) (ws : List (Worker L C U))
    → map seat_of ws ≡ seats → s.tells ≡ is_some s.limit → All (IsSeat tells.list tells.limit s.session s.limit) seats → All is_unended ws → All (IsNewWorker s) (map (told_by tells) ws)
all_new {L} {C} {U} tells s seats ws same told are unended =
    All-map (IsNewWorker s) (told_by tells) ws
    (λ place d less.
    let seat : IsSeat tells.list tells.limit s.session s.limit (seat_of (slice_index_or ws place d)) =
    subst (IsSeat tells.list tells.limit s.session s.limit) (get_or-map seat_of ws place d (seat_of d) less)
    (subst (λ l. IsSeat tells.list tells.limit s.session s.limit (slice_index_or l place (seat_of d))) (sym same)
    (are place (seat_of d) (subst (λ l. place < length l) same (subst (λ n. place < n) (sym (length-map ws seat_of)) less)))) in
    record { session = seat.session_is; list = seat.list_is ∙ sym (ap no_steps told); limit = seat.limit_is; unended = unended place d less })

-- the counts of a receiver that came to its end
pub counted : (given : Given) (desk : DeskState) (counts : Counts) (before : Option (List Step)) → desk.kept ≡ option_map (λ steps. steps ++ the_end ∷ []) before
    → settings_of desk.receiver ≡ given.settings → counts ≡ desk.receiver.counts
    → ((steps : List Step) → desk.kept ≡ Some steps → StandsFor given desk (reverse steps))
    → (steps : List Step) → desk.kept ≡ Some steps → AreCountsOf counts given.settings.limits (history_of (reverse steps))
counted given desk counts before ended settings same stands steps told =
    let more = one_more_told before desk.kept the_end steps ended told in
    let back : reverse steps ≡ the_end ∷ reverse more.0 = ap reverse more.2 ∙ reverse_more more.0 the_end in
    let there = stands steps told in
    let at_end : desk.receiver.buffer.phase ≡ phases.Ended = there.phase ∙ ap phase_of back in
    subst (λ c. AreCountsOf c given.settings.limits (history_of (reverse steps))) (sym same)
    (subst (λ l. AreCountsOf desk.receiver.counts l (history_of (reverse steps))) (ap (λ x. x.limits) settings)
    (there.receiver.counted (λ failed. absurd (cc (at_end, failed)))).counts)

-- a list that holds nothing is told where it is
pub none_told : (tells : Bool) → is_some (no_steps tells) ≡ tells
none_told true = refl
none_told false = refl

-- traces that tell have a limit
pub kept_sure : {P : Type 0} (keep : Option ℕ) → keep ≡ None → is_some keep ≡ true → P
kept_sure None none tells = absurd (cc (tells))
kept_sure (Some n) none tells = absurd (cc (none))

-- a desk that was given this, by what made it
pub same_given : (given : Given) (tells : Bool) → given.tells_steps ≡ tells → given ≡ record given { tells_steps = tells }
same_given given tells is = ap (λ (b : Bool). record given { tells_steps = b }) is

-- what was received is exact
pub exactly : (given : Given) (desk : DeskState) (own : List (List Step)) (counts : Counts) → 1 ≤ given.settings.limits.playout_delay → settings_of desk.receiver ≡ given.settings → counts ≡ desk.receiver.counts
    → ((steps : List Step) → desk.kept ≡ Some steps → StandsFor given desk (reverse steps)) → HasReceived given desk.kept desk.contents own → IsExact given desk own counts
exactly given desk own counts delay settings same stands received = record {
  received = received;
  reached = λ steps octets p run before told is steady stays honest.
      whole_is_exact given p run steps desk.kept desk.contents octets (subst (λ b. IsWhole given b desk.kept desk.contents) before received.whole) told is delay steady stays honest;
  epochs = λ steps octets streams run before told is steady are.
      whole_by_epochs given streams run steps desk.kept desk.contents octets (subst (λ b. IsWhole given b desk.kept desk.contents) before received.whole) told is delay steady are;
  counted = counted given desk counts received.before received.whole.ended settings same stands;
}

-- how a run ended, by what its workers tell
pub record Finds {L C U : Type 0} (tells : TraceTells U) (ending : Ending) (given : Given) (desk : DeskState) (workers : List (Worker L C U)) : Type 0 where
  pub spent : ending ≡ endings.Spent → any_worker is_spent workers ≡ true
  pub full : ending ≡ endings.TraceFull → IsWithoutRoom workers given desk
  pub torn : (tear : Tear) → ending ≡ endings.Torn tear → IsSound workers × IsTorn given desk.kept desk.contents (own_lists tells.list workers) tear
  pub down : ending ≡ endings.LinksDown → IsSound workers × (all_workers is_link_failed workers ≡ true) × HasReceived given desk.kept desk.contents (own_lists tells.list workers)
  pub done : ending ≡ endings.Done → IsSound workers × (all_workers is_link_failed workers ≡ false) × HasReceived given desk.kept desk.contents (own_lists tells.list workers)

sound_told : {L C U : Type 0} (tells : TraceTells U) (ws : List (Worker L C U)) → IsSound ws → IsSound (map (told_by tells) ws)
sound_told tells ws sound = (any_told is_spent tells ws ∙ sound.0, any_told is_without_room tells ws ∙ sound.1)

pub ends_as : {L C U : Type 0} (tells : TraceTells U) (ending : Ending) (given : Given) (desk : DeskState) (ws : List (Worker L C U)) (counts : Counts)
    → (HasReceived given desk.kept desk.contents (own_lists tells.list ws) → IsExact given desk (own_lists tells.list ws) counts) → Finds tells ending given desk ws → EndsAs ending given desk (map (told_by tells) ws) counts
ends_as tells endings.WriteFault given desk ws counts exact finds = tt
ends_as tells endings.Spent given desk ws counts exact finds = any_told is_spent tells ws ∙ finds.spent refl
ends_as tells endings.TraceFull given desk ws counts exact finds =
    let f = finds.full refl in
    record { paired = any_told is_spent tells ws ∙ f.paired; room = by_room f.room }
  where
    by_room : (any_worker is_without_room ws ≡ true) ⊎ LacksRoom given desk → (any_worker is_without_room (map (told_by tells) ws) ≡ true) ⊎ LacksRoom given desk
    by_room (inl one) = inl (any_told is_without_room tells ws ∙ one)
    by_room (inr lacks) = inr lacks
ends_as tells (endings.Torn tear) given desk ws counts exact finds =
    let f = finds.torn tear refl in
    (sound_told tells ws f.0, subst (λ own. IsTorn given desk.kept desk.contents own tear) (sym (lists_told tells ws)) f.1)
ends_as tells endings.LinksDown given desk ws counts exact finds =
    let f = finds.down refl in
    (sound_told tells ws f.0, all_told is_link_failed tells ws ∙ f.1, subst (λ own. IsExact given desk own counts) (sym (lists_told tells ws)) (exact f.2))
ends_as tells endings.Done given desk ws counts exact finds =
    let f = finds.done refl in
    (sound_told tells ws f.0, all_told is_link_failed tells ws ∙ f.1, subst (λ own. IsExact given desk own counts) (sym (lists_told tells ws)) (exact f.2))

-- ---- pairs are wanting only where there is a sealer

spent_is : (end : Option Ended) → is_spent end ≡ true → end ≡ Some ends.Spent
spent_is None is = absurd (cc (is))
spent_is (Some ends.End) is = absurd (cc (is))
spent_is (Some ends.Turns) is = absurd (cc (is))
spent_is (Some ends.Idle) is = absurd (cc (is))
spent_is (Some ends.Failed) is = absurd (cc (is))
spent_is (Some ends.Stopped) is = absurd (cc (is))
spent_is (Some ends.WriteFault) is = absurd (cc (is))
spent_is (Some ends.Spent) is = refl
spent_is (Some ends.TraceFull) is = absurd (cc (is))

-- of as many workers before and after, one ended so
one_spent : {L C : Type 0} (P : Type 0) (were are : List (Worker L C ToldTrace)) → length are ≡ length were
    → ((link : ℕ) (before after : Worker L C ToldTrace) → slice_get were link ≡ Some before → slice_get are link ≡ Some after → after.end ≡ Some ends.Spent → P)
    → any_worker is_spent are ≡ true → P
one_spent P were [] many each any = absurd (cc (any))
one_spent P [] (a ∷ are) many each any = absurd (omega (arith, many))
one_spent {L} {C} P (b ∷ were) (a ∷ are) many each any =
    by_first (is_spent a.end) refl any (λ some. one_spent P were are (omega (arith, many)) (λ link before after. each (suc link) before after) some)
  where
    by_first : (first : Bool) → is_spent a.end ≡ first → (first || any_worker is_spent are) ≡ true → (any_worker is_spent are ≡ true → P) → P
    by_first true is some rest = each 0 b a refl refl (spent_is a.end is)
    by_first false is some rest = rest some

pub keyed_where_spent : {L C : Type 0} (moments : C → Option (ℕ → ℕ)) (tells : LinkTells L) (s : Setup) (limits : ServingLimits) (was is : Outside L C) (counts : Counts)
    → Receives moments tells s limits was is counts endings.Spent → IsKeyed (given_to s was.contents was.faults)
keyed_where_spent moments tells s limits was is counts run =
    one_spent (IsKeyed (given_to s was.contents was.faults)) run.were run.are run.as_many (λ link before after had has. (run.served link before after had has).spent) run.ends
