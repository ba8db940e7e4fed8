-- What the workers and the places leave, together.
use Rattle.std.proofs.Common.{◌≡◌, ◌⊎◌, inl, inr, ◌+◌, ◌<◌, ◌≤◌, ◌^◌, ℕ, zero, suc, List, [], ◌∷◌, ◌++◌, map, length, reverse, slice_get, unwrap_or, Bool, true, false, Option, None, Some, refl, ap, sym, ◌∙◌, subst, arith}
use Rattle.std.specs.Prelude.{slice_index_or, ◌||◌, ◌&&◌}
use Rattle.std.specs.List.{All}
use Rattle.std.specs.Option.{option_map}
use Rattle.std.proofs.lemmas.List.{length-map, get_or-map, map-append, reverse-append, reverse-reverse}
use Rattle.std.proofs.lemmas.List.Elements.{All-map}
use Rattle.std.proofs.lemmas.Option.{get_or_from_slice_get, slice_get_within, slice_get-map}
use Rattle.outside_net.specs.Links.{LinkTells}
use Rattle.rist_wire.specs.declared.session.Session.{Session}
use Rattle.rist_desk.specs.declared.ended.Ended.{Ended}
use Rattle.rist_desk.specs.declared.ended.Ended.TheVariants as ends
use Rattle.rist_desk.specs.declared.worker.ServingLimits.{ServingLimits}
use Rattle.rist_desk.specs.declared.worker.Worker.{Worker}
use Rattle.rist_desk.specs.Desk.{Given, is_cut_off}
use Rattle.rist_desk.specs.declared.step.Mark.{Mark}
use Rattle.rist_desk.specs.declared.step.Mark.TheVariants as marks
use Rattle.rist_desk.specs.declared.step.Step.{Step}
use Rattle.rist_desk.specs.Items.{erased}
use Rattle.rist_desk.specs.Serving.{IsFeed, MayServe, OwnTells, ServesWith}
use Rattle.rist_desk.specs.Turns.{Feed}
use Rattle.rist_desk.specs.Work.{AreSent, EndsBy, IsLast, last_in}
use Rattle.rist_desk.proofs.ListLemmas.{reverse_more}
use Rattle.turn_lock.specs.declared.pass.Pass.{Pass}
use Rattle.turn_lock.specs.declared.rule.Turn.{Turn}
use Rattle.turn_lock.specs.Turns.{entries}
use Rattle.turn_lock.specs.Passes.{entries_with, turns_left, turns_seen}
use Rattle.rist_fan.specs.declared.fan.Fan.{Fan}
use Rattle.rist_fan.specs.declared.flow.Came.{Came}
use Rattle.rist_fan.specs.declared.flow.Flow.{Flow}
use Rattle.rist_fan.specs.Seen.{FanStep, is_for, seen, seen_in}
use Rattle.rist_fan.proofs.FanLemmas.{at_some}
use Rattle.turn_lock.specs.History.{added}
use Rattle.turn_desk.specs.Own.{AreOf}
use Rattle.fan_desk.specs.declared.desk.FanDesk.{FanDesk}
use Rattle.fan_desk.specs.declared.tunnel_desk.RowPass.{RowPass}
use Rattle.fan_desk.specs.Own.{AreFreshFor, HasSeenFault, IsOf, KnowsEnds, MadeNone, rows_told}
use Rattle.fan_desk.specs.Made.{IsDueAt, IsMadeAt, IsMadeRow, IsRowHalfSent, IsRowLast, IsSomeKeyed, MadeRow, RowPlan, before_at, outs_at, several}
use Rattle.fan_desk.proofs.OwnLemmas.{seen_before}
use Rattle.desk_run.specs.declared.ending.Ending.{Ending}
use Rattle.desk_run.specs.Endings.{all_workers, any_worker, is_link_failed, is_spent, is_without_room}
use Rattle.desk_run.specs.Run.{timed_links}
use Rattle.desk_run.specs.Turns.{FitsAfter, ending_by}
use Rattle.desk_run.specs.Workers.{clock_of, is_unended, link_of, opener_of, trace_of}
use Rattle.fan_run.specs.Brought.{AreBroughtAt, plan_at}
use Rattle.fan_run.specs.Concluded.{AreOwnedRows, HaveConcluded, seen_by}
use Rattle.fan_run.specs.Passes.{HasRooms, pass_of}
use Rattle.fan_run.specs.Run.{FlowsGiven, IsNewWorker, ReceivesFlows, ToldRows, is_any_cut, rows_of, told_by, told_rows}

-- ---- one less of a list

-- the last of a list of which each has this, and the rest
pub last_has : {A : Type 0} (x : A) (P : A → Type 0) (old new : List A) → old ≡ new ++ x ∷ [] → All P old → P x
last_has x P old new popped all =
    let whole = subst (All P) popped all in
    let d = x in
    let at = whole (length new) d (within new) in
    subst P (there new) at
  where
    within : (l : List _) → length l < length (l ++ x ∷ [])
    within [] = omega arith
    within (y ∷ l) = let more = within l in omega (arith, more)

    there : (l : List _) → slice_index_or (l ++ x ∷ []) (length l) x ≡ x
    there [] = refl
    there (y ∷ l) = there l

pub rest_have : {A : Type 0} (x : A) (P : A → Type 0) (old new : List A) → old ≡ new ++ x ∷ [] → All P old → All P new
rest_have x P old new popped all k d less =
    let whole = subst (All P) popped all in
    subst P (front new k d less) (whole k d (longer new k less))
  where
    longer : (l : List _) (k : ℕ) → k < length l → k < length (l ++ x ∷ [])
    longer [] k less = absurd (omega (arith, less))
    longer (y ∷ l) zero less = omega arith
    longer (y ∷ l) (suc k) less = let more = longer l k (omega (arith, less)) in omega (arith, more)

    front : (l : List _) (k : ℕ) (d : _) → k < length l → slice_index_or (l ++ x ∷ []) k d ≡ slice_index_or l k d
    front [] k d less = absurd (omega (arith, less))
    front (y ∷ l) zero d less = refl
    front (y ∷ l) (suc k) d less = front l k d (omega (arith, less))

-- ---- steps of a place

not_both : (b : Bool) → b ≡ true → b ≡ false → ⊥
not_both true e f = cc (f)
not_both false e f = cc (e)

none_both : (v : ℕ) (a b : List FanStep) → MadeNone v (a ++ b) → MadeNone v a ⊎ MadeNone v b
none_both v [] b m = inr m
none_both v (row ∷ a) b (inl e) = inl (inl e)
none_both v (row ∷ a) b (inr m) = with_first (none_both v a b m)
  where
    with_first : MadeNone v a ⊎ MadeNone v b → MadeNone v (row ∷ a) ⊎ MadeNone v b
    with_first (inl x) = inl (inr x)
    with_first (inr y) = inr y

row_first : (row : FanStep) (rows : List FanStep) → reverse (row ∷ rows) ≡ reverse rows ++ row ∷ []
row_first row rows =
    ap (λ (l : List FanStep). reverse (row ∷ l)) (sym (reverse-reverse rows))
    ∙ (ap (λ (l : List FanStep). reverse l) (sym (reverse_more (reverse rows) row)) ∙ reverse-reverse (reverse rows ++ row ∷ []))

none_reversed : (v : ℕ) (rows : List FanStep) → MadeNone v (reverse rows) → MadeNone v rows
none_reversed v [] m = m
none_reversed v (row ∷ rows) m = by_part (none_both v (reverse rows) (row ∷ []) (subst (MadeNone v) (row_first row rows) m)) (none_reversed v rows)
  where
    by_part : MadeNone v (reverse rows) ⊎ MadeNone v (row ∷ []) → (MadeNone v (reverse rows) → MadeNone v rows) → MadeNone v (row ∷ rows)
    by_part (inl x) back = inr (back x)
    by_part (inr (inl e)) back = inl e
    by_part (inr (inr none)) back = absurd none

turned_one : (o : Option Step) → reverse (added o []) ≡ added o []
turned_one None = refl
turned_one (Some s) = refl

seen_first : (v : ℕ) (row : FanStep) (rows : List FanStep) → seen_by v (row ∷ rows) ≡ added (seen_in v row) [] ++ seen_by v rows
seen_first v row rows =
    ap (λ (l : List FanStep). reverse (seen v l)) (row_first row rows)
    ∙ (ap (λ (l : List Step). reverse l) (seen_before v (reverse rows) (row ∷ []))
    ∙ (reverse-append (seen v (reverse rows)) (added (seen_in v row) [])
    ∙ ap (λ (l : List Step). l ++ seen_by v rows) (turned_one (seen_in v row))))

-- a place that has a step in a row
step_in : (v places : ℕ) (row : FanStep) → length row.steps ≡ places → v < places → (slice_get row.steps v ≡ Some None → ⊥) → (s : Step) × (seen_in v row ≡ Some s)
step_in v places row long low some = by_member (at_some row.steps v (subst (λ (n : ℕ). v < n) (sym long) low)).0 (at_some row.steps v (subst (λ (n : ℕ). v < n) (sym long) low)).1
  where
    by_member : (o : Option Step) → slice_get row.steps v ≡ Some o → (s : Step) × (seen_in v row ≡ Some s)
    by_member None e = absurd (some e)
    by_member (Some s) e = (s, ap (λ (x : Option (Option Step)). unwrap_or x None) e)

-- each was made
abbrev AllMade : (given : ℕ → Given) (places : ℕ) → List MadeRow → Type 0
AllMade given places [] = Unit {0}
AllMade given places (m ∷ ms) = IsMadeRow given places m × AllMade given places ms

all_made_both : (given : ℕ → Given) (places : ℕ) (a b : List MadeRow) → AllMade given places a → AllMade given places b → AllMade given places (a ++ b)
all_made_both given places [] b x y = y
all_made_both given places (m ∷ a) b x y = (x.0, all_made_both given places a b x.1 y)

all_sent_made : (ports : List ℕ) (given : ℕ → Given) (places : ℕ) (ms : List MadeRow) → AreSent (several ports given places) ms → AllMade given places ms
all_sent_made ports given places [] s = tt
all_sent_made ports given places (m ∷ ms) s = (s.0.made, all_sent_made ports given places ms s.1)

none_made : (given : ℕ → Given) (places : ℕ) (last : Option MadeRow) → last ≡ None → AllMade given places (last_in last)
none_made given places last e = subst (λ (o : Option MadeRow). AllMade given places (last_in o)) (sym e) tt

over_made : (given : ℕ → Given) (places : ℕ) (mark : Mark) (last : Option MadeRow) → IsLast (IsRowLast given places mark) last → AllMade given places (last_in last)
over_made given places mark None l = absurd l
over_made given places mark (Some m) l = (l.made, tt)

half_made : (given : ℕ → Given) (places : ℕ) (last : Option MadeRow) → IsLast (IsRowHalfSent given places) last → AllMade given places (last_in last)
half_made given places None l = absurd l
half_made given places (Some m) l = (l.made, tt)

last_made : (ports : List ℕ) (given : ℕ → Given) (places : ℕ) (planned : Option Ended) (end : Ended) (last : Option MadeRow) (missing : List RowPlan) → EndsBy (several ports given places) planned end last missing
    → AllMade given places (last_in last)
last_made ports given places planned end last missing (inl whole) = none_made given places last whole.1
last_made ports given places planned ends.Stopped last missing (inr c) = none_made given places last c.0
last_made ports given places planned ends.TraceFull last missing (inr c) = none_made given places last c.0
last_made ports given places planned ends.WriteFault last missing (inr c) = over_made given places marks.WriteFault last c
last_made ports given places planned ends.Spent last missing (inr c) = over_made given places marks.Spent last c
last_made ports given places planned ends.Failed last missing (inr c) = half_made given places last c
last_made ports given places planned ends.End last missing (inr c) = absurd c
last_made ports given places planned ends.Turns last missing (inr c) = absurd c
last_made ports given places planned ends.Idle last missing (inr c) = absurd c

-- how a row was planned
abbrev plan_of : MadeRow → RowPlan
plan_of m = record { place = m.place; planned = m.planned }

-- planned steps, as what comes is to a place, are the steps that it saw but for what they came to
plans_seen : (given : ℕ → Given) (places v : ℕ) (ms : List MadeRow) → AllMade given places ms → v < places → (MadeNone v (map (λ (m : MadeRow). m.row) ms) → ⊥)
    → map (plan_at v) (map plan_of ms) ≡ map erased (seen_by v (map (λ (m : MadeRow). m.row) ms))
plans_seen given places v [] all low steady = refl
plans_seen given places v (m ∷ ms) all low steady =
    let rows = map (λ (x : MadeRow). x.row) ms in
    let there = step_in v places m.row all.0.long low (λ none. steady (inl none)) in
    let due : IsDueAt (given v) (is_for m.place v) m.planned (before_at v m) there.0 (outs_at v m) =
    subst (λ (o : Option Step). IsMadeAt (given v) (is_for m.place v) m.planned (before_at v m) o (outs_at v m)) there.1 (all.0.each v low) in
    ap (λ (l : List Step). plan_at v (plan_of m) ∷ l) (plans_seen given places v ms all.1 low (λ none. steady (inr none)))
    ∙ (ap (λ (s : Step). s ∷ map erased (seen_by v rows)) (sym due.plan)
    ∙ (ap (λ (o : Option Step). map erased (added o [] ++ seen_by v rows)) (sym there.1)
    ∙ ap (map erased) (sym (seen_first v m.row rows))))

-- the rows of a worker that had none before
gained : (old new : Option (List FanStep)) (rows : List FanStep) → old ≡ Some [] → new ≡ option_map (λ l. l ++ rows) old → unwrap_or new [] ≡ rows
gained old new rows had is = ap (λ (o : Option (List FanStep)). unwrap_or o []) (is ∙ ap (option_map (λ (l : List FanStep). l ++ rows)) had)

-- a worker's own steps at a place are what its link brought there
brought_at : {L C : Type 0} (moments : C → Option (ℕ → ℕ)) (tells : LinkTells L) (flows : FlowsGiven) (session : Session) (limits : ServingLimits) (link : ℕ) (was is : Worker L C ToldRows) (f : Feed) (v : ℕ) → v < flows.places
    → IsNewWorker session was → IsFeed f session link limits (moments was.clock) (tells.reads was.link) (tells.knows was.link)
    → ServesWith (several flows.ports flows.given flows.places) moments tells (told_rows flows.given) limits link was is → (MadeNone v (unwrap_or is.trace.rows []) → ⊥)
    → AreBroughtAt v flows.ports f (seen_by v (unwrap_or is.trace.rows []))
brought_at moments tells flows session limits link was is f v low begun feed served steady =
    let did = served.made.served f (subst (λ (x : Session). IsFeed f x link limits (moments was.clock) (tells.reads was.link) (tells.knows was.link)) (sym begun.session_is) feed) in
    let ms = did.own.done ++ last_in did.own.last in
    let rows_are : unwrap_or is.trace.rows [] ≡ map (λ (m : MadeRow). m.row) ms = gained was.trace.rows is.trace.rows (map (λ (m : MadeRow). m.row) ms) begun.rows did.own.gains.list in
    let all = all_made_both flows.given flows.places did.own.done (last_in did.own.last) (all_sent_made flows.ports flows.given flows.places did.own.done did.own.sent)
    (last_made flows.ports flows.given flows.places _ _ did.own.last did.own.missing did.own.cause) in
    let seen = plans_seen flows.given flows.places v ms all low (λ none. steady (subst (MadeNone v) (sym rows_are) none)) in
    record {
      turns = did.last + 1;
      missing = map (plan_at v) did.own.missing;
      front = ap (map (plan_at v)) did.own.plan_is
          ∙ (map-append (plan_at v) (map plan_of ms) did.own.missing
          ∙ ap (λ (l : List Step). l ++ map (plan_at v) did.own.missing) (seen ∙ ap (λ (rows : List FanStep). map erased (seen_by v rows)) (sym rows_are)));
    }

-- ---- workers with their passes

there : {A : Type 0} (l : List A) (k : ℕ) (d : A) → k < length l → slice_get l k ≡ Some (slice_index_or l k d)
there [] k d less = absurd (omega (arith, less))
there (x ∷ l) zero d less = refl
there (x ∷ l) (suc k) d less = there l k d (omega (arith, less))

-- a worker of such a desk
abbrev pub RowWorker : (N K L C : Type 0) → Type 0
RowWorker N K L C = Worker L C (RowPass N K)

-- what a worker may be given there, and how many steps it may still make
abbrev pub Owns : {N K : Type 0} → FanDesk N K → ℕ → ℕ → RowPass N K → Type 0
Owns desk places link own = IsOf desk link own.pass × (length own.came.items ≡ places) × KnowsEnds places own.pass

abbrev pub good_for : {N K : Type 0} → RowPass N K → ℕ
good_for own = turns_left own.pass

-- what is told of what is its own
abbrev pub own_tells : {N K : Type 0} → (ℕ → Given) → OwnTells FanStep (RowPass N K)
own_tells given = record { told = λ own. rows_told own.pass; Lacks = λ own. ⊥; Keyed = IsSomeKeyed given }

-- a worker was served
abbrev Serves : {L C U : Type 0} → (C → Option (ℕ → ℕ)) → LinkTells L → FlowsGiven → ServingLimits → OwnTells FanStep U → ℕ → Worker L C U → Worker L C U → Type 0
Serves moments tells flows limits own link was is = ServesWith (several flows.ports flows.given flows.places) moments tells own limits link was is

module _ {N K L C : Type 0} where
  -- the passes of workers
  abbrev pub passes_in : List (RowWorker N K L C) → List (Pass FanStep (Fan K))
  passes_in ws = map (pass_of {N = N} {K = K}) (map trace_of ws)

  pub pass_at : (ws : List (RowWorker N K L C)) (k : ℕ) (w : RowWorker N K L C) → slice_get ws k ≡ Some w → slice_get (passes_in ws) k ≡ Some w.trace.pass
  pass_at ws k w e =
      slice_get-map pass_of (map trace_of ws) k
      ∙ ap (option_map pass_of) (slice_get-map trace_of ws k ∙ ap (option_map trace_of) e)

  -- a worker with a fresh pass may make all its turns
  pub may_serve : (desk : FanDesk N K) (places : ℕ) (ws : List (RowWorker N K L C)) (passes : List (Pass FanStep (Fan K))) (limits : ServingLimits) → passes_in ws ≡ passes → All (HasRooms places) (map trace_of ws)
      → AreFreshFor desk passes → limits.turns ≤ 2 ^ 40 → (i : ℕ) (d : RowWorker N K L C) → i < length ws
      → MayServe (λ (s : FanDesk N K). Owns s places) good_for desk limits i (slice_index_or ws i d)
  may_serve desk places ws passes limits are rooms fresh few i d less =
      let w : RowWorker N K L C = slice_index_or ws i d in
      let f = fresh.each i w.trace.pass (subst (λ (l : List (Pass FanStep (Fan K))). slice_get l i ≡ Some w.trace.pass) are (pass_at ws i w (there ws i d less))) in
      let room : HasRooms places w.trace =
      subst (HasRooms places) (get_or-map trace_of ws i d (trace_of d) less) (rooms i (trace_of d) (subst (λ n. i < n) (sym (length-map ws trace_of)) less)) in
      record {
        own = (
          record { own = f.own; number = f.number_is; rows = λ v. subst (λ (rows : List FanStep). AreOf i (seen v rows)) (sym f.added_nothing) tt },
          room,
          λ v low none. absurd (subst (MadeNone v) f.added_nothing none),
        );
        left_is = let left = f.left in omega (arith, left, few);
      }

  -- the passes of workers that ended are still the desk's
  pub still_all : (desk : FanDesk N K) (ws : List (RowWorker N K L C)) → ((i : ℕ) (d : RowWorker N K L C) → i < length ws → IsOf desk i (slice_index_or ws i d).trace.pass)
      → (k : ℕ) (p : Pass FanStep (Fan K)) → slice_get (passes_in ws) k ≡ Some p → IsOf desk k p
  still_all desk ws are k p e = by_place (slice_get ws k) refl
    where
      by_place : (o : Option (RowWorker N K L C)) → slice_get ws k ≡ o → IsOf desk k p
      by_place None none =
          absurd (let gone = sym e ∙ (slice_get-map pass_of (map trace_of ws) k ∙ ap (option_map pass_of) (slice_get-map trace_of ws k ∙ ap (option_map trace_of) none)) in cc (gone))
      by_place (Some w) at =
          let same : w.trace.pass ≡ p = (let is = sym (pass_at ws k w at) ∙ e in cc (is)) in
          subst (IsOf desk k) same (subst (λ (x : RowWorker N K L C). IsOf desk k x.trace.pass) (get_or_from_slice_get ws k w w at) (are k w (slice_get_within ws k w at)))

  -- ---- as far as workers tell

  pub links_told : (ws : List (RowWorker N K L C)) → map link_of (map told_by ws) ≡ map link_of ws
  links_told [] = refl
  links_told (w ∷ ws) = ap (λ l. w.link ∷ l) (links_told ws)

  pub clocks_told : (ws : List (RowWorker N K L C)) → map clock_of (map told_by ws) ≡ map clock_of ws
  clocks_told [] = refl
  clocks_told (w ∷ ws) = ap (λ l. w.clock ∷ l) (clocks_told ws)

  any_told : (test : Option Ended → Bool) (ws : List (RowWorker N K L C)) → any_worker test (map told_by ws) ≡ any_worker test ws
  any_told test [] = refl
  any_told test (w ∷ ws) = ap (λ b. test w.end || b) (any_told test ws)

  all_told : (test : Option Ended → Bool) (ws : List (RowWorker N K L C)) → all_workers test (map told_by ws) ≡ all_workers test ws
  all_told test [] = refl
  all_told test (w ∷ ws) = ap (λ b. test w.end && b) (all_told test ws)

  pub fits_told : (ws : List (RowWorker N K L C)) (after : Ending) → FitsAfter ws after → FitsAfter (map told_by ws) after
  fits_told ws after f = record {
    no_fault = f.no_fault;
    spent = λ e. any_told is_spent ws ∙ f.spent e;
    full = λ e. any_told is_without_room ws ∙ f.full e;
    whole = f.whole;
    down = λ e. let h = f.down e in ((any_told is_spent ws ∙ h.0.0, any_told is_without_room ws ∙ h.0.1), all_told is_link_failed ws ∙ h.1);
    done = λ e. let h = f.done e in ((any_told is_spent ws ∙ h.0.0, any_told is_without_room ws ∙ h.0.1), all_told is_link_failed ws ∙ h.1);
  }

  told_at : (ws : List (RowWorker N K L C)) (link : ℕ) (t : Worker L C ToldRows) → slice_get (map told_by ws) link ≡ Some t → (w : RowWorker N K L C) × (slice_get ws link ≡ Some w) × (told_by w ≡ t)
  told_at ws link t is = by_place (slice_get ws link) refl (sym (slice_get-map told_by ws link) ∙ is)
    where
      by_place : (o : Option (RowWorker N K L C)) → slice_get ws link ≡ o → option_map told_by o ≡ Some t → (w : RowWorker N K L C) × (slice_get ws link ≡ Some w) × (told_by w ≡ t)
      by_place None e f = absurd (cc (f))
      by_place (Some w) e f = (w, e, cc (f))

  module _ (moments : C → Option (ℕ → ℕ)) (tells : LinkTells L) (flows : FlowsGiven) (limits : ServingLimits) where
    serves_told : (link : ℕ) (was is : RowWorker N K L C) → Serves moments tells flows limits (own_tells flows.given) link was is → Serves moments tells flows limits (told_rows flows.given) link (told_by was) (told_by is)
    serves_told link was is s = record {
      made = record {
        end = s.made.end;
        ended = s.made.ended;
        served = s.made.served;
        session = s.made.session;
        end_cause = s.made.end_cause;
        failed_cause = s.made.failed_cause;
      };
      full = s.full;
      spent = s.spent;
    }

    pub all_served : (ws later : List (RowWorker N K L C)) → ((link : ℕ) (d : RowWorker N K L C) → link < length ws → Serves moments tells flows limits (own_tells flows.given) link (slice_index_or ws link d) (slice_index_or later link d))
        → (link : ℕ) (was is : Worker L C ToldRows) → slice_get (map told_by ws) link ≡ Some was → slice_get (map told_by later) link ≡ Some is → Serves moments tells flows limits (told_rows flows.given) link was is
    all_served ws later served link was is had has =
        let before = told_at ws link was had in
        let after = told_at later link is has in
        let here : Serves moments tells flows limits (own_tells flows.given) link before.0 after.0 =
        subst (λ x. Serves moments tells flows limits (own_tells flows.given) link x after.0) (get_or_from_slice_get ws link before.0 before.0 before.1)
        (subst (λ y. Serves moments tells flows limits (own_tells flows.given) link (slice_index_or ws link before.0) y) (get_or_from_slice_get later link after.0 before.0 after.1)
        (served link before.0 (slice_get_within ws link before.0 before.1))) in
        subst (λ x. Serves moments tells flows limits (told_rows flows.given) link x is) before.2
        (subst (λ y. Serves moments tells flows limits (told_rows flows.given) link (told_by before.0) y) after.2 (serves_told link before.0 after.0 here))

  -- ---- own rows

  each_row : (ws : List (RowWorker N K L C)) (k : ℕ) (rows : List FanStep) → slice_get (rows_of (map told_by ws)) k ≡ Some rows → (p : Pass FanStep (Fan K)) × (slice_get (passes_in ws) k ≡ Some p) × (rows ≡ reverse (entries_with p))
  each_row [] k rows e = absurd (cc (e))
  each_row (w ∷ ws) zero rows e = let same : reverse (entries_with w.trace.pass) ≡ rows = cc (e) in (w.trace.pass, refl, sym same)
  each_row (w ∷ ws) (suc k) rows e = each_row ws k rows e

  none_behind : (ws : List (RowWorker N K L C)) (k : ℕ) (p : Pass FanStep (Fan K)) → length (rows_of (map told_by ws)) ≤ k → slice_get (passes_in ws) k ≡ Some p → entries_with p ≡ []
  none_behind [] k p le e = absurd (cc (e))
  none_behind (w ∷ ws) zero p le e = absurd (omega (arith, le))
  none_behind (w ∷ ws) (suc k) p le e = none_behind ws k p (omega (arith, le)) e

  pub owned_rows : (ws : List (RowWorker N K L C)) → AreOwnedRows (rows_of (map told_by ws)) (passes_in ws)
  owned_rows ws = record { each = each_row ws; behind = none_behind ws }

  -- ---- a run

  -- workers were set into their places, and served
  pub record RunsFlows (moments : C → Option (ℕ → ℕ)) (tells : LinkTells L) (flows : FlowsGiven) (session : Session) (limits : ServingLimits) (ws later : List (RowWorker N K L C)) (openers : List Session)
      (passes : List (Pass FanStep (Fan K))) (after : Ending) : Type 0 where
    pub openers_are : map opener_of ws ≡ openers
    pub session_is : All (λ opener. opener ≡ session) openers
    pub passes_are : passes_in ws ≡ passes
    pub fresh : (k : ℕ) (p : Pass FanStep (Fan K)) → slice_get passes k ≡ Some p → (entries_with p ≡ []) × (turns_seen p ≡ [])
    pub unended : All is_unended ws
    pub as_many : length later ≡ length ws
    pub served : (link : ℕ) (d : RowWorker N K L C) → link < length ws → ServesWith (several flows.ports flows.given flows.places) moments tells (own_tells flows.given) limits link (slice_index_or ws link d) (slice_index_or later link d)
    pub over : (link : ℕ) (d : RowWorker N K L C) → link < length ws → ((slice_index_or later link d).end ≡ Some ends.Stopped) ⊎ ((slice_index_or later link d).end ≡ Some ends.WriteFault)
        → (v : ℕ) → v < flows.places → HasSeenFault v (slice_index_or later link d).trace.pass
    pub knows : (link : ℕ) (d : RowWorker N K L C) → link < length ws → KnowsEnds flows.places (slice_index_or later link d).trace.pass
    pub fits : FitsAfter later after

  module _ (moments : C → Option (ℕ → ℕ)) (tells : LinkTells L) (contents : K → Option (List ℕ)) (faults : K → ℕ) (flows : FlowsGiven) (session : Session) (limits : ServingLimits)
      (ws later : List (RowWorker N K L C)) (openers : List Session) (passes : List (Pass FanStep (Fan K))) (after : Ending) (r : RunsFlows moments tells flows session limits ws later openers passes after) where
    begun : All (IsNewWorker session) (map told_by ws)
    begun =
        All-map (IsNewWorker session) told_by ws
        (λ place d less.
        let w : RowWorker N K L C = slice_index_or ws place d in
        let opener : w.opener ≡ session =
        subst (λ (x : Session). x ≡ session) (get_or-map opener_of ws place d (opener_of d) less)
        (subst (λ (l : List Session). slice_index_or l place (opener_of d) ≡ session) (sym r.openers_are)
        (r.session_is place (opener_of d) (subst (λ (l : List Session). place < length l) r.openers_are (subst (λ n. place < n) (sym (length-map ws opener_of)) less)))) in
        let nothing : (entries_with w.trace.pass ≡ []) × (turns_seen w.trace.pass ≡ []) =
        r.fresh place w.trace.pass (subst (λ (l : List (Pass FanStep (Fan K))). slice_get l place ≡ Some w.trace.pass) r.passes_are (pass_at ws place w (there ws place d less))) in
        record {
          session_is = opener;
          rows = ap (λ (l : List FanStep). Some (reverse l)) nothing.0;
          unseen = ap (λ (ts : List (Turn FanStep)). Some (reverse (entries ts))) nothing.1;
          unended = r.unended place d less;
        })

    begun_at : (w : Worker L C ToldRows) (link : ℕ) → slice_get (map told_by ws) link ≡ Some w → IsNewWorker session w
    begun_at w link at = subst (IsNewWorker session) (get_or_from_slice_get (map told_by ws) link w w at) (begun link w (slice_get_within (map told_by ws) link w at))

    pub receives : (left : List (Flow K)) (came : List Came) (ending : Ending) (links_were links_are : List L) (clocks_were clocks_are : List C)
        → map link_of ws ≡ links_were → map link_of later ≡ links_are → map clock_of ws ≡ clocks_were → map clock_of later ≡ clocks_are
        → length left ≡ flows.places → length came ≡ flows.places → HaveConcluded flows.given contents faults (rows_of (map told_by later)) (passes_in later) left came
        → ending ≡ ending_by (is_any_cut came) after
        → ReceivesFlows moments tells contents faults flows session limits (timed_links links_were clocks_were) (timed_links links_are clocks_are) left came ending
    receives left came ending links_were links_are clocks_were clocks_are had have clocks_had clocks_have left_many came_many h is =
        record {
          were = map told_by ws;
          are = map told_by later;
          links_had = links_told ws ∙ had;
          clocks_had = clocks_told ws ∙ clocks_had;
          begun = begun;
          links_have = links_told later ∙ have;
          clocks_have = clocks_told later ∙ clocks_have;
          as_many = length-map later told_by ∙ (r.as_many ∙ sym (length-map ws told_by));
          served = all_served moments tells flows limits ws later r.served;
          places = (left_many, came_many);
          concluded = record { turns = h.turns; owned = h.owned; behind = h.behind; each = h.each; cut = λ v c k p at_came at_pass. absurd (cc (at_pass)); older = λ k p at_pass. absurd (cc (at_pass)) };
          seen = λ link t e.
              let back = told_at later link t e in
              let pass = back.0.trace.pass in
              (reverse (entries (turns_seen pass)), ap (λ (x : Worker L C ToldRows). x.trace.seen) (sym back.2), h.older link pass (pass_at later link back.0 back.1));
          broken = λ link t e broke v c at.
              let back = told_at later link t e in
              let w = back.0 in
              let among : link < length ws = subst (λ n. link < n) r.as_many (slice_get_within later link w back.1) in
              let same : slice_index_or later link w ≡ w = get_or_from_slice_get later link w w back.1 in
              let why = subst (λ (x : RowWorker N K L C). (x.end ≡ Some ends.Stopped) ⊎ (x.end ≡ Some ends.WriteFault)) (sym same) (subst (λ (x : Worker L C ToldRows). (x.end ≡ Some ends.Stopped) ⊎ (x.end ≡ Some ends.WriteFault)) (sym back.2) broke) in
              let low : v < flows.places = subst (λ n. v < n) came_many (slice_get_within came v c at) in
              let seen = subst (λ (x : RowWorker N K L C). HasSeenFault v x.trace.pass) same (r.over link w among why v low) in
              h.cut v c link w.trace.pass at (pass_at later link w back.1) seen;
          brought = λ v c at sound link was is had has f feed.
              let low : v < flows.places = subst (λ n. v < n) came_many (slice_get_within came v c at) in
              let before = told_at ws link was had in
              let back = told_at later link is has in
              let w = back.0 in
              let among : link < length ws = subst (λ n. link < n) r.as_many (slice_get_within later link w back.1) in
              let same : slice_index_or later link w ≡ w = get_or_from_slice_get later link w w back.1 in
              let knows = subst (λ (x : RowWorker N K L C). KnowsEnds flows.places x.trace.pass) same (r.knows link w among) in
              let steady : MadeNone v (entries_with w.trace.pass) → ⊥ =
              λ none. not_both (is_cut_off c.answer) (h.cut v c link w.trace.pass at (pass_at later link w back.1) (knows v low none)) sound in
              let rows_are : unwrap_or is.trace.rows [] ≡ reverse (entries_with w.trace.pass) = ap (λ (x : Worker L C ToldRows). unwrap_or x.trace.rows []) (sym back.2) in
              let begun_here = begun_at was link had in
              brought_at moments tells flows session limits link was is f v low begun_here feed (all_served moments tells flows limits ws later r.served link was is had has)
              (λ none. steady (none_reversed v (entries_with w.trace.pass) (subst (MadeNone v) rows_are none)));
          after = after;
          fits = fits_told later after r.fits;
          ending_is = is;
        }
