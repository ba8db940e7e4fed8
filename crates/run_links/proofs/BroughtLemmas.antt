-- The steps that the workers of a run told are what their links brought.
use Rattle.std.proofs.Common.{◌≡◌, ◌∙◌, ◌<◌, ◌+◌, ◌++◌, ℕ, List, [], ◌∷◌, length, map, true, Option, None, Some, refl}
use Rattle.std.proofs.Common.{sym, ap, subst, slice_get}
use Rattle.std.proofs.lemmas.List.{length-map}
use Rattle.std.proofs.lemmas.Option.{get_or_from_slice_get, slice_get_within, slice_get-map}
use Rattle.std.specs.Prelude.{is_some, unwrap_or, slice_index_or}
use Rattle.std.specs.Option.{option_map}
use Rattle.std.proofs.lemmas.List.Elements.{All-get_or}
use Rattle.outside_host.specs.Shelf.{Shelf}
use Rattle.outside_host.specs.declared.host.Place.TheVariants.{Here}
use Rattle.rist_ends.specs.declared.counts.Counts.{Counts}
use Rattle.rist_desk.specs.declared.step.Step.{Step}
use Rattle.rist_desk.specs.declared.worker.ServingLimits.{ServingLimits as WorkerLimits}
use Rattle.rist_desk.specs.declared.worker.Worker.{Worker}
use Rattle.rist_desk.specs.Items.{Planned, erased}
use Rattle.rist_desk.specs.Sending.{Made, planned_of}
use Rattle.rist_desk.specs.Work.{last_in}
use Rattle.rist_desk.specs.Serving.{IsFeed, ServesOn}
use Rattle.desk_run.specs.declared.ending.Ending.{Ending}
use Rattle.desk_run.specs.Receiving.{the_end}
use Rattle.desk_run.specs.Run.{IsNewWorker, Receives, told_lists, outside}
use Rattle.desk_run.specs.Setup.{Setup as ReceiveSetup, given_to, no_steps}
use Rattle.desk_run.specs.Workers.{ToldTrace, clock_of, link_of, told_trace}
use Rattle.rist_compare.specs.Tears.{Agree}
use Rattle.run_links.specs.Brought.{AreOfLink, IsBrought}
use Rattle.run_parts.specs.Objects.{TellsLive}
use Rattle.run_parts.proofs.PlaceLemmas.{at_place}

some_same : {A : Type 0} (x y : A) → Some x ≡ Some y → x ≡ y
some_same x y e = cc

-- the steps before the end are told where those with it are
pub before_is : (kept before : Option (List Step)) → kept ≡ option_map (λ steps. steps ++ the_end ∷ []) before → is_some kept ≡ true → before ≡ Some (unwrap_or before [])
before_is kept None is told = absurd (cc (is, told))
before_is kept (Some steps) is told = refl

-- the steps that were made
abbrev steps_in : List Made → List Step
steps_in ms = map (λ (m : Made). m.step) ms

-- planned steps are steps but for what they came to
plans_are : (ms : List Made) → map (λ (p : Planned). p.step) (map planned_of ms) ≡ map erased (steps_in ms)
plans_are [] = refl
plans_are (m ∷ ms) = ap (λ l. erased m.step ∷ l) (plans_are ms)

map_both : (xs ys : List Planned) → map (λ (p : Planned). p.step) (xs ++ ys) ≡ map (λ (p : Planned). p.step) xs ++ map (λ (p : Planned). p.step) ys
map_both [] ys = refl
map_both (x ∷ xs) ys = ap (λ l. x.step ∷ l) (map_both xs ys)

-- a list of a worker that had none before
gained : (old new : Option (List Step)) (steps : List Step) → old ≡ Some [] → new ≡ option_map (λ l. l ++ steps) old → unwrap_or new [] ≡ steps
gained old new steps had is = ap (λ (o : Option (List Step)). unwrap_or o []) (is ∙ ap (option_map (λ (l : List Step). l ++ steps)) had)

-- what a part of a worker is, at its place
part_at : {L C X : Type 0} (part : Worker L C ToldTrace → X) (ws : List (Worker L C ToldTrace)) (xs : List X) (place : ℕ) (w : Worker L C ToldTrace) (x : X) → map part ws ≡ xs
    → slice_get ws place ≡ Some w → slice_index_or xs place x ≡ x → part w ≡ x
part_at part ws xs place w x are here is =
    let there : slice_get xs place ≡ Some (part w) = subst (λ l. slice_get l place ≡ Some (part w)) are (slice_get-map part ws place ∙ ap (option_map part) here) in
    sym (get_or_from_slice_get xs place (part w) x there) ∙ is

module _ {L C : Type 0} (live : TellsLive L C) (s : ReceiveSetup) (limits : WorkerLimits) (links_were links_are : List L) (clocks_were clocks_are : List C)
    (contents_were contents_are : Option (List ℕ)) (faults_were faults_are : ℕ) (counts : Counts) (ending : Ending)
    (run : Receives live.moments live.line s limits (outside links_were clocks_were contents_were faults_were) (outside links_are clocks_are contents_are faults_are) counts ending)
    (tells_it : s.tells ≡ true) where
  -- the list of a worker is what its link brought
  pub brought : (place : ℕ) (link : L) (clock : C) (steps : List Step) → slice_index_or links_were place link ≡ link → slice_index_or clocks_were place clock ≡ clock
      → slice_get (told_lists run.are) place ≡ Some steps
      → AreOfLink live s.session limits place link clock steps
  brought place link clock steps link_is clock_is at f feed =
      let inside : place < length run.are = subst (λ n. place < n) (length-map run.are (λ (w : Worker L C ToldTrace). unwrap_or w.trace.list [])) (slice_get_within (told_lists run.are) place steps at) in
      let before : place < length run.were = subst (λ n. place < n) run.as_many inside in
      let is = at_place run.are place inside in
      let was = at_place run.were place before in
      let new : Worker L C ToldTrace = is.0 in
      let old : Worker L C ToldTrace = was.0 in
      let begun : IsNewWorker s old =
      subst (λ w. IsNewWorker s w) (get_or_from_slice_get run.were place old old was.1) (All-get_or (IsNewWorker s) run.were place old before run.begun) in
      let served : ServesOn (given_to s contents_were faults_were) live.moments live.line told_trace limits place old new = run.served place old new was.1 is.1 in
      let same_link : old.link ≡ link = part_at link_of run.were links_were place old link run.links_had was.1 link_is in
      let same_clock : old.clock ≡ clock = part_at clock_of run.were clocks_were place old clock run.clocks_had was.1 clock_is in
      let fed : IsFeed f old.opener place limits (live.moments old.clock) (live.line.reads old.link) (live.line.knows old.link) =
      subst (λ x. IsFeed f x place limits (live.moments old.clock) (live.line.reads old.link) (live.line.knows old.link)) (sym begun.session)
      (subst (λ x. IsFeed f s.session place limits (live.moments x) (live.line.reads old.link) (live.line.knows old.link)) (sym same_clock)
      (subst (λ x. IsFeed f s.session place limits (live.moments clock) (live.line.reads x) (live.line.knows x)) (sym same_link) feed)) in
      let did = served.made.served f fed in
      let ms = did.own.done ++ last_in did.own.last in
      let list : unwrap_or new.trace.list [] ≡ steps_in ms = gained old.trace.list new.trace.list (steps_in ms) (begun.list ∙ ap no_steps tells_it) did.own.gains.list in
      let told : unwrap_or new.trace.list [] ≡ steps =
      some_same (unwrap_or new.trace.list []) steps (sym (slice_get-map (λ (w : Worker L C ToldTrace). unwrap_or w.trace.list []) run.are place ∙ ap (option_map (λ (w : Worker L C ToldTrace). unwrap_or w.trace.list [])) is.1) ∙ at) in
      record {
        turns = did.last + 1;
        missing = map (λ (p : Planned). p.step) did.own.missing;
        front = ap (map (λ (p : Planned). p.step)) did.own.plan_is
            ∙ (map_both (map planned_of ms) did.own.missing
            ∙ ap (λ (l : List Step). l ++ map (λ (p : Planned). p.step) did.own.missing) (plans_are ms ∙ ap (map erased) (sym list ∙ told)));
      }

  -- the history of a run
  unfoldable pub is_brought : {I O E : Type 0} (old : Shelf I O E L C) (counted : ℕ) (before : Option (List Step)) → length links_were ≡ counted
      → ((place : ℕ) (link : L) → place < counted → old.links place ≡ Here link → slice_index_or links_were place link ≡ link)
      → ((place : ℕ) (clock : C) → place < counted → place < length clocks_were → old.clocks place ≡ Here clock → slice_index_or clocks_were place clock ≡ clock)
      → Agree (unwrap_or before []) (told_lists run.are) → IsBrought live old s.session limits counted
  is_brought old counted before count links_here clocks_here agree =
      let many : length (told_lists run.are) ≡ counted =
      length-map run.are (λ (w : Worker L C ToldTrace). unwrap_or w.trace.list []) ∙ (run.as_many ∙ (sym (length-map run.were link_of) ∙ (ap length run.links_had ∙ count))) in
      let clocks : length clocks_were ≡ counted =
      sym (ap length run.clocks_had) ∙ (length-map run.were clock_of ∙ (sym (length-map run.were link_of) ∙ (ap length run.links_had ∙ count))) in
      record {
        history = unwrap_or before [];
        own = told_lists run.are;
        many = many;
        agree = agree;
        of_links = λ place link clock steps here there at.
            let inside : place < counted = subst (λ n. place < n) many (slice_get_within (told_lists run.are) place steps at) in
            brought place link clock steps (links_here place link inside here) (clocks_here place clock inside (subst (λ n. place < n) (sym clocks) inside) there) at;
      }
