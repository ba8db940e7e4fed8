-- What a run in turns leaves, together.
use Rattle.std.proofs.Common.{◌≡◌, ◌≢◌, ◌<◌, ◌≤◌, ◌⊎◌, inl, inr, ℕ, zero, suc, List, [], ◌∷◌, ◌++◌, ◌^◌, map, length, reverse, slice_get, Bool, true, false, Option, None, Some, refl, ap, sym, ◌∙◌, subst, arith, append-nil}
use Rattle.std.specs.Prelude.{slice_index_or, ◌||◌}
use Rattle.std.specs.List.{All}
use Rattle.std.specs.Option.{option_map}
use Rattle.std.proofs.lemmas.Option.{get_or_from_slice_get, slice_get_within, slice_get-map}
use Rattle.std.proofs.lemmas.List.{length-map, get_or-map}
use Rattle.std.proofs.lemmas.List.Elements.{All-map}
use Rattle.outside_io.specs.Causes.{RoseWhere}
use Rattle.outside_net.specs.Traces.{is_full}
use Rattle.rist_wire.specs.declared.session.Session.{Session}
use Rattle.rist_ends.specs.declared.counts.Counts.{Counts}
use Rattle.rist_ends.specs.Receiver.{ReceiverState, settings_of}
use Rattle.rist_compare.specs.declared.tear.Tear.{Tear}
use Rattle.rist_desk.specs.declared.ended.Ended.{Ended}
use Rattle.rist_desk.specs.declared.ended.Ended.TheVariants as ends
use Rattle.rist_desk.specs.declared.step.Step.{Step}
use Rattle.rist_desk.specs.declared.worker.ServingLimits.{ServingLimits}
use Rattle.rist_desk.specs.declared.worker.Worker.{Worker}
use Rattle.rist_desk.specs.Desk.{DeskState, Given}
use Rattle.rist_desk.specs.Sending.{LacksRoom}
use Rattle.outside_net.specs.Links.{LinkTells}
use Rattle.rist_desk.specs.Serving.{MayServe, ServesOn, TraceTells}
use Rattle.turn_lock.specs.declared.pass.Pass.{Pass}
use Rattle.turn_lock.specs.declared.rule.Turn.{Turn}
use Rattle.turn_lock.specs.Turns.{entries}
use Rattle.turn_lock.specs.Passes.{entries_with, turns_left, turns_seen}
use Rattle.turn_desk.specs.declared.desk.TurnDesk.{TurnDesk}
use Rattle.turn_desk.specs.declared.shared.Shared.{Shared}
use Rattle.turn_desk.specs.Own.{AreFreshFor, AreOf, HasSeenFault, IsOf, all_seen, own_list}
use Rattle.desk_run.specs.declared.ending.Ending.{Ending}
use Rattle.desk_run.specs.declared.ending.Ending.TheVariants as endings
use Rattle.desk_run.specs.Endings.{any_worker, is_without_room, is_write_fault}
use Rattle.desk_run.specs.Receiving.{own_lists, HasReceived}
use Rattle.desk_run.specs.Run.{EndsAs, HasSeen, IsExact, IsNewWorker, Receives, outside, told_lists}
use Rattle.desk_run.specs.Setup.{Setup, given_to, no_steps}
use Rattle.desk_run.specs.Turns.{AreOwned, FitsAfter, HasConcluded, ending_by}
use Rattle.desk_run.specs.Workers.{ToldTrace, told_by, link_of, clock_of, opener_of, trace_of, is_unended}
use Rattle.desk_run.proofs.RunLemmas.{all_served, clocks_told, ends_as, exactly, links_told, lists_told, told_at}

-- what passes tell
abbrev pub pass_tells : {X : Type 0} → TraceTells (Pass Step X)
pass_tells {X} = record { list = own_list {X = X}; seen = all_seen {X = X}; limit = λ pass. None }

-- ---- places

there : {A : Type 0} (l : List A) (k : ℕ) (d : A) → k < length l → slice_get l k ≡ Some (slice_index_or l k d)
there [] k d less = absurd (omega (arith, less))
there (x ∷ l) zero d less = refl
there (x ∷ l) (suc k) d less = there l k d (omega (arith, less))

pub pass_at : {L C X : Type 0} (ws : List (Worker L C (Pass Step X))) (k : ℕ) (w : Worker L C (Pass Step X)) → slice_get ws k ≡ Some w → slice_get (map trace_of ws) k ≡ Some w.trace
pass_at ws k w e = slice_get-map trace_of ws k ∙ ap (option_map trace_of) e

-- ---- what the workers own

module _ {L C X : Type 0} (more : List (Pass Step X)) (none : (k : ℕ) (p : Pass Step X) → slice_get more k ≡ Some p → entries_with p ≡ []) where
  each_first : (ws : List (Worker L C (Pass Step X))) (k : ℕ) (steps : List Step) → slice_get (own_lists own_list ws) k ≡ Some steps
      → (p : Pass Step X) × (slice_get (map trace_of ws ++ more) k ≡ Some p) × (steps ≡ reverse (entries_with p))
  each_first [] k steps e = absurd (cc (e))
  each_first (w ∷ ws) zero steps e = let same : reverse (entries_with w.trace) ≡ steps = cc (e) in (w.trace, refl, sym same)
  each_first (w ∷ ws) (suc k) steps e = each_first ws k steps e

  behind_first : (ws : List (Worker L C (Pass Step X))) (k : ℕ) (p : Pass Step X) → length (own_lists own_list ws) ≤ k → slice_get (map trace_of ws ++ more) k ≡ Some p → entries_with p ≡ []
  behind_first [] k p le e = none k p e
  behind_first (w ∷ ws) zero p le e = absurd (omega (arith, le))
  behind_first (w ∷ ws) (suc k) p le e = behind_first ws k p (omega (arith, le)) e

  -- the first passes are the workers', and the others own nothing
  pub owned_first : (ws : List (Worker L C (Pass Step X))) → AreOwned (own_lists own_list ws) (map trace_of ws ++ more)
  owned_first ws = record { each = each_first ws; behind = behind_first ws }

pub owned_all : {L C X : Type 0} (ws : List (Worker L C (Pass Step X))) → AreOwned (own_lists own_list ws) (map trace_of ws)
owned_all {L} {C} {X} ws = subst (AreOwned (own_lists own_list ws)) (append-nil (map trace_of ws)) (owned_first [] (λ k p e. absurd (cc (e))) ws)

-- ---- room

not_full : (o : Option (List Step)) → is_full None o ≡ true → ⊥
not_full None e = cc (e)
not_full (Some l) e = cc (e)

has_room : (given : Given) (own : Option (List Step)) → given.limit ≡ None → LacksRoom given None own → ⊥
has_room given own free (inl full) = not_full own full
has_room given own free (inr full) = not_full full.kept (subst (λ (limit : Option ℕ). is_full limit full.kept ≡ true) free full.full)

with_room : (e : Option Ended) → e ≢ Some ends.TraceFull → is_without_room e ≡ false
with_room None not = refl
with_room (Some ends.End) not = refl
with_room (Some ends.Turns) not = refl
with_room (Some ends.Idle) not = refl
with_room (Some ends.Failed) not = refl
with_room (Some ends.Stopped) not = refl
with_room (Some ends.WriteFault) not = refl
with_room (Some ends.Spent) not = refl
with_room (Some ends.TraceFull) not = absurd (not refl)

none_full : {L C U : Type 0} (ws : List (Worker L C U)) → ((k : ℕ) (w : Worker L C U) → slice_get ws k ≡ Some w → w.end ≢ Some ends.TraceFull) → any_worker is_without_room ws ≡ false
none_full [] not = refl
none_full (w ∷ ws) not = ap (λ b. b || any_worker is_without_room ws) (with_room w.end (not zero w refl)) ∙ none_full ws (λ k x e. not (suc k) x e)

-- ---- a run

-- workers were set into their places, and served on a desk that was given this
pub record RunsInTurns {L C X : Type 0} (given : Given) (moments : C → Option (ℕ → ℕ)) (tells : LinkTells L) (s : Setup) (limits : ServingLimits) (ws later : List (Worker L C (Pass Step X))) (openers : List Session)
    (passes : List (Pass Step X)) (after : Ending) : Type 0 where
  pub openers_are : map opener_of ws ≡ openers
  pub session : All (λ session. session ≡ s.session) openers
  pub passes_are : map trace_of ws ≡ passes
  pub fresh : (k : ℕ) (p : Pass Step X) → slice_get passes k ≡ Some p → (entries_with p ≡ []) × (turns_seen p ≡ [])
  pub unended : All is_unended ws
  pub as_many : length later ≡ length ws
  pub served : (link : ℕ) (d : Worker L C (Pass Step X)) → link < length ws → ServesOn given moments tells pass_tells limits link (slice_index_or ws link d) (slice_index_or later link d)
  pub stopped : (link : ℕ) (d : Worker L C (Pass Step X)) → link < length ws → (slice_index_or later link d).end ≡ Some ends.Stopped → HasSeenFault (slice_index_or later link d).trace
  pub fault : (link : ℕ) (d : Worker L C (Pass Step X)) → link < length ws → (slice_index_or later link d).end ≡ Some ends.WriteFault → HasSeenFault (slice_index_or later link d).trace
  pub fits : FitsAfter later after

module _ {L C X : Type 0} (moments : C → Option (ℕ → ℕ)) (tells : LinkTells L) (s : Setup) (limits : ServingLimits) (ws later : List (Worker L C (Pass Step X))) (openers : List Session) (passes : List (Pass Step X)) (after : Ending) (contents : Option (List ℕ)) (faults : ℕ)
    (r : RunsInTurns (given_to s contents faults) moments tells s limits ws later openers passes after) (free : s.limit ≡ None) (told : s.tells ≡ true) where
  abbrev W : Type 0
  W = Worker L C (Pass Step X)

  begun : All (IsNewWorker s) (map (told_by pass_tells) ws)
  begun =
      All-map (IsNewWorker s) (told_by pass_tells) ws
      (λ place d less.
      let w : W = slice_index_or ws place d in
      let session : w.opener ≡ s.session =
      subst (λ (x : Session). x ≡ s.session) (get_or-map opener_of ws place d (opener_of d) less)
      (subst (λ (l : List Session). slice_index_or l place (opener_of d) ≡ s.session) (sym r.openers_are)
      (r.session place (opener_of d) (subst (λ (l : List Session). place < length l) r.openers_are (subst (λ n. place < n) (sym (length-map ws opener_of)) less)))) in
      let nothing : entries_with w.trace ≡ [] = (r.fresh place w.trace (subst (λ (l : List (Pass Step X)). slice_get l place ≡ Some w.trace) r.passes_are (pass_at ws place w (there ws place d less)))).0 in
      record {
        session = session;
        list = ap (λ (l : List Step). Some (reverse l)) nothing ∙ sym (ap no_steps told);
        limit = sym free;
        unended = r.unended place d less;
      })

  -- the place of a worker that ended
  among : (k : ℕ) (w : W) → slice_get later k ≡ Some w → k < length ws
  among k w e = subst (λ n. k < n) r.as_many (slice_get_within later k w e)

  ended_well : (k : ℕ) (w : W) → slice_get later k ≡ Some w → w.end ≢ Some ends.TraceFull
  ended_well k w e full =
      let same : slice_index_or later k w ≡ w = get_or_from_slice_get later k w w e in
      let h = r.served k w (among k w e) in
      has_room (given_to s contents faults) (own_list (slice_index_or later k w).trace) free (h.full (ap (λ (x : W). x.end) same ∙ full))

  roomy : any_worker is_without_room later ≡ false
  roomy = none_full later ended_well

  seen_at : (k : ℕ) (w : W) → slice_get later k ≡ Some w → (w.end ≡ Some ends.Stopped) ⊎ (w.end ≡ Some ends.WriteFault) → HasSeenFault w.trace
  seen_at k w e broke = by_end broke
    where
      same : slice_index_or later k w ≡ w
      same = get_or_from_slice_get later k w w e

      by_end : (w.end ≡ Some ends.Stopped) ⊎ (w.end ≡ Some ends.WriteFault) → HasSeenFault w.trace
      by_end (inl stopped) = subst (λ (x : W). HasSeenFault x.trace) same (r.stopped k w (among k w e) (ap (λ (x : W). x.end) same ∙ stopped))
      by_end (inr fault) = subst (λ (x : W). HasSeenFault x.trace) same (r.fault k w (among k w e) (ap (λ (x : W). x.end) same ∙ fault))

  not_torn_by : (cut : Bool) (tear : Tear) → ending_by cut after ≢ endings.Torn tear
  not_torn_by true tear e = cc (e)
  not_torn_by false tear e = r.fits.whole tear e

  not_full_by : (cut : Bool) → ending_by cut after ≢ endings.TraceFull
  not_full_by true e = cc (e)
  not_full_by false e = (let full = r.fits.full e in cc (full, roomy))

  fault_by : (cut : Bool) (n m : ℕ) → RoseWhere cut n m → RoseWhere (is_write_fault (ending_by cut after)) n m
  fault_by true n m rose = rose
  fault_by false n m same = subst (λ (b : Bool). RoseWhere b n m) (sym r.fits.no_fault) same

  -- how it ended, by the desk's end
  ends_by : (cut : Bool) (desk : DeskState) (counts : Counts) → (cut ≡ false → HasReceived (given_to s contents faults) desk.kept desk.contents (own_lists own_list later))
      → (HasReceived (given_to s contents faults) desk.kept desk.contents (own_lists own_list later) → IsExact (given_to s contents faults) desk (own_lists own_list later) counts)
      → EndsAs (ending_by cut after) (given_to s contents faults) desk (map (told_by pass_tells) later) counts
  ends_by true desk counts received exact = tt
  ends_by false desk counts received exact =
      ends_as pass_tells after (given_to s contents faults) desk later counts exact
      record {
        spent = r.fits.spent;
        full = λ e. absurd (not_full_by false e);
        torn = λ tear e. absurd (r.fits.whole tear e);
        down = λ e. let h = r.fits.down e in (h.0, h.1, received refl);
        done = λ e. let h = r.fits.done e in (h.0, h.1, received refl);
      }

  -- what was received is exact where no write failed
  exact_by : (cut : Bool) (desk : DeskState) (counts : Counts) → (cut ≡ false → HasReceived (given_to s contents faults) desk.kept desk.contents (own_lists own_list later))
      → (HasReceived (given_to s contents faults) desk.kept desk.contents (own_lists own_list later) → IsExact (given_to s contents faults) desk (own_lists own_list later) counts)
      → is_write_fault (ending_by cut after) ≡ false → IsExact (given_to s contents faults) desk (told_lists (map (told_by pass_tells) later)) counts
  exact_by true desk counts received exact sound = absurd (cc (sound))
  exact_by false desk counts received exact sound = subst (λ own. IsExact (given_to s contents faults) desk own counts) (sym (lists_told pass_tells later)) (exact (received refl))

  pub receives : (left : List (Pass Step X)) (cut : Bool) (receiver : ReceiverState) (contents_are : Option (List ℕ)) (faults_are : ℕ) (counts : Counts)
      (links_were links_are : List L) (clocks_were clocks_are : List C)
      → map link_of ws ≡ links_were → map link_of later ≡ links_are → map clock_of ws ≡ clocks_were → map clock_of later ≡ clocks_are
      → HasConcluded (given_to s contents faults) (own_lists own_list later) left cut receiver contents_are faults_are
      → ((k : ℕ) (w : W) → slice_get later k ≡ Some w → slice_get left k ≡ Some w.trace)
      → counts ≡ receiver.counts → 1 ≤ s.settings.limits.playout_delay
      → Receives moments tells s limits (outside links_were clocks_were contents faults) (outside links_are clocks_are contents_are faults_are) counts (ending_by cut after)
  receives left cut receiver contents_are faults_are counts links_were links_are clocks_were clocks_are had have clocks_had clocks_have h places count delay =
      let given = given_to s contents faults in
      let exact = exactly given h.desk (own_lists own_list later) counts delay (ap settings_of h.receiver_is ∙ h.settings) (count ∙ ap (λ (x : ReceiverState). x.counts) (sym h.receiver_is)) h.stands in
      record {
        were = map (told_by pass_tells) ws;
        are = map (told_by pass_tells) later;
        desk = h.desk;
        links_had = links_told pass_tells ws ∙ had;
        clocks_had = clocks_told pass_tells ws ∙ clocks_had;
        begun = begun;
        links_have = links_told pass_tells later ∙ have;
        clocks_have = clocks_told pass_tells later ∙ clocks_have;
        as_many = length-map later (told_by pass_tells) ∙ (r.as_many ∙ sym (length-map ws (told_by pass_tells)));
        served = all_served given moments tells pass_tells limits ws later r.served;
        tells_steps = h.tells ∙ sym told;
        contents = h.contents_are;
        faults = h.faults_are;
        counts_are = count ∙ ap (λ (x : ReceiverState). x.counts) (sym h.receiver_is);
        stands = h.stands;
        fault = fault_by cut faults faults_are h.cause;
        ends = ends_by cut h.desk counts h.received exact;
        sure = λ limit tells_all. record {
          room = not_full_by cut;
          whole = not_torn_by cut;
          exact = exact_by cut h.desk counts h.received exact;
          broken = λ link w e broke.
              let back = told_at pass_tells later link w e in
              let seen = seen_at link back.0 back.1 (subst (λ (x : Worker L C ToldTrace). (x.end ≡ Some ends.Stopped) ⊎ (x.end ≡ Some ends.WriteFault)) (sym back.2) broke) in
              let cut_is = h.seen link back.0.trace (places link back.0 back.1) seen in
              subst (λ (b : Bool). RoseWhere b faults faults_are) cut_is h.cause;
          unseen = λ link w e.
              let back = told_at pass_tells ws link w e in
              let fresh = r.fresh link back.0.trace (subst (λ (l : List (Pass Step X)). slice_get l link ≡ Some back.0.trace) r.passes_are (pass_at ws link back.0 back.1)) in
              ap (λ (x : Worker L C ToldTrace). x.trace.seen) (sym back.2) ∙ ap (λ (ts : List (Turn Step)). Some (reverse (entries ts))) fresh.1;
          seen = λ link w e.
              let back = told_at pass_tells later link w e in
              subst (λ (x : Worker L C ToldTrace). HasSeen h.desk.kept x.trace.seen) back.2 (h.older link back.0.trace (places link back.0 back.1));
        };
      }

-- ---- passes with their workers

module _ {N K L C : Type 0} (desk : TurnDesk N K) (ws : List (Worker L C (Pass Step (Shared N K)))) where
  abbrev V : Type 0
  V = Worker L C (Pass Step (Shared N K))

  -- a worker with a fresh pass may make all its turns
  pub may_serve : (passes : List (Pass Step (Shared N K))) (limits : ServingLimits) → map trace_of ws ≡ passes → AreFreshFor desk passes → limits.turns ≤ 2 ^ 40
      → (i : ℕ) (d : V) → i < length ws → MayServe IsOf turns_left desk limits i (slice_index_or ws i d)
  may_serve passes limits are fresh few i d less =
      let w : V = slice_index_or ws i d in
      let f = fresh.each i w.trace (subst (λ (l : List (Pass Step (Shared N K))). slice_get l i ≡ Some w.trace) are (pass_at ws i w (there ws i d less))) in
      record {
        own = record { own = f.own; number = f.number_is; steps = subst (AreOf i) (sym f.added_nothing) tt };
        left_is = let left = f.left in omega (arith, left, few);
      }

  -- the passes of workers that ended are still the desk's
  pub still_all : ((i : ℕ) (d : V) → i < length ws → IsOf desk i (slice_index_or ws i d).trace)
      → (k : ℕ) (p : Pass Step (Shared N K)) → slice_get (map trace_of ws) k ≡ Some p → IsOf desk k p
  still_all are k p e = by_place (slice_get ws k) refl
    where
      by_place : (o : Option V) → slice_get ws k ≡ o → IsOf desk k p
      by_place None none = absurd (let gone = sym e ∙ (slice_get-map trace_of ws k ∙ ap (option_map trace_of) none) in cc (gone))
      by_place (Some w) at =
          let same : w.trace ≡ p = (let is = sym (pass_at ws k w at) ∙ e in cc (is)) in
          subst (IsOf desk k) same (subst (λ (x : V). IsOf desk k x.trace) (get_or_from_slice_get ws k w w at) (are k w (slice_get_within ws k w at)))
