-- What each receiver sees of one more step, and what it stands for then.
use Rattle.std.proofs.Common.{◌≡◌, ◌≢◌, ◌⊎◌, inl, inr, ◌<◌, ◌≤◌, ℕ, zero, suc, ◌+◌, Bool, true, false, length, map, List, [], ◌∷◌, reverse, slice_get, unwrap_or, Option, None, Some, option_map, refl, ap, sym, ◌∙◌, subst, arith}
use Rattle.std.specs.Prelude.{slice_index_or}
use Rattle.std.proofs.lemmas.Bool.{cases_lt}
use Rattle.std.proofs.lemmas.Option.{get_or_from_slice_get, slice_get_within, slice_get-map}
use Rattle.outside_io.specs.Causes.{RoseWhere}
use Rattle.receiver_rules.specs.Steps as buffer
use Rattle.reorder_buffer.specs.declared.phase.Phase.{Phase}
use Rattle.request_rules.specs.Steps.{Input, Step as ReceiverStep, buffer_history}
use Rattle.rist_ends.specs.declared.told.Told.{Told}
use Rattle.rist_ends.specs.declared.told.What.{What}
use Rattle.rist_ends.specs.declared.told.What.TheVariants as whats
use Rattle.rist_ends.specs.declared.outcome.Outcome.{Outcome}
use Rattle.rist_ends.specs.Told.{IsNoEnd}
use Rattle.rist_desk.specs.declared.step.Step.{Step}
use Rattle.rist_desk.specs.Made.{end_told, step_after}
use Rattle.rist_desk.specs.Desk.{DeskState, Given, IsDesk, IsNew, StandsFor, is_failed}
use Rattle.rist_desk.proofs.DeskLemmas.{Stepped}
use Rattle.turn_lock.specs.History.{added}
use Rattle.turn_desk.specs.Stands.{Stands, kept_with, with_end}
use Rattle.turn_desk.proofs.SharedLemmas.{answers_after, figures_kept, stands_more}
use Rattle.turn_desk.proofs.EndLemmas.{end_cause, stands_ended}
use Rattle.rist_fan.specs.declared.flow.Flow.{Flow}
use Rattle.rist_fan.specs.declared.flow.Came.{Came}
use Rattle.rist_fan.specs.Fan.{AllAnswer, AllFigures, AllStep, AreNew, FanEnded, FanStands, StepsFlow, outcome_in, step_come}
use Rattle.rist_fan.specs.Seen.{Alike, AreAlikeIn, FanStep, KeptAsRefused, Same, fan_step, is_for, row_from, seen, told_for, what_for}

-- ---- its own step

row_at : (place : Option ℕ) (told : Told) (from : ℕ) (outcomes : List Outcome) (v : ℕ) (o : Outcome) → slice_get outcomes v ≡ Some o
    → slice_get (row_from place told from outcomes) v ≡ Some (step_after (told_for (is_for place (from + v)) told) o)
row_at place told from [] v o e = absurd (cc (e))
row_at place told from (x ∷ outcomes) zero o e =
    let at : from ≡ from + 0 = omega arith in
    let same : x ≡ o = cc (e) in
    ap (λ (y : Outcome). Some (step_after (told_for (is_for place from) told) y)) same ∙ ap (λ (n : ℕ). Some (step_after (told_for (is_for place n) told) o)) at
row_at place told from (x ∷ outcomes) (suc v) o e =
    let at : (from + 1) + v ≡ from + suc v = omega arith in
    row_at place told (from + 1) outcomes v o e ∙ ap (λ (n : ℕ). Some (step_after (told_for (is_for place n) told) o)) at

pub sees_own : (place : Option ℕ) (told : Told) (outcomes : List Outcome) (history : List FanStep) (v : ℕ) (o : Outcome) → slice_get outcomes v ≡ Some o
    → seen v (fan_step place told outcomes ∷ history) ≡ added (step_after (told_for (is_for place v) told) o) (seen v history)
sees_own place told outcomes history v o e =
    ap (λ (m : Option (Option Step)). added (unwrap_or m None) (seen v history)) (row_at place told 0 outcomes v o e)
    ∙ (let at : 0 + v ≡ v = omega arith in ap (λ (n : ℕ). added (step_after (told_for (is_for place n) told) o) (seen v history)) at)

-- ---- time alone

alike_event : (link tick : ℕ) (a b : Input) → Alike a b → buffer_history (record { link = link; tick = tick; input = a } ∷ []) ≡ buffer_history (record { link = link; tick = tick; input = b } ∷ [])
alike_event link tick a b (Same c) = refl
alike_event link tick a b KeptAsRefused = refl

abbrev first_of : List buffer.Step → List buffer.Step → List buffer.Step
first_of [] m = m
first_of (x ∷ l) m = x ∷ m

pub plays_alike : (one other : List ReceiverStep) → AreAlikeIn one other → buffer_history one ≡ buffer_history other
plays_alike [] [] a = refl
plays_alike [] (t ∷ m) a = absurd a
plays_alike (s ∷ l) [] a = absurd a
plays_alike (s ∷ l) (t ∷ m) a =
    let same_time : buffer_history (s ∷ []) ≡ buffer_history (record { link = t.link; tick = t.tick; input = s.input } ∷ []) =
    ap (λ (k : ℕ). buffer_history (record { link = t.link; tick = k; input = s.input } ∷ [])) a.1 in
    let same_event = alike_event t.link t.tick s.input t.input a.2 in
    ap (λ (x : List buffer.Step). first_of x (buffer_history l)) (same_time ∙ same_event) ∙ ap (λ (x : List buffer.Step). first_of (buffer_history (t ∷ [])) x) (plays_alike l m a.3)

-- ---- one more receiver

some_same : {A : Type 0} (x y : A) → Some x ≡ Some y → x ≡ y
some_same x y e = cc (e)

module _ {K : Type 0} (contents : K → Option (List ℕ)) (faults : K → ℕ) (place : Option ℕ) (told : Told) where
  -- the receivers behind the first, up to this many and then one more, made their step
  pub done_more : (k : ℕ) (old now new : List (Flow K)) (was here is : List Came)
      → ((v : ℕ) (d : Flow K) (e : Came) → v < k → StepsFlow contents faults (told_for (is_for place (v + 1)) told) (slice_index_or old v d) (slice_index_or now v d) (slice_index_or was (v + 1) e) (slice_index_or here (v + 1) e))
      → ((v : ℕ) (d : Flow K) → k ≤ v → slice_index_or now v d ≡ slice_index_or old v d)
      → ((v : ℕ) (e : Came) → k ≤ v → slice_index_or here (v + 1) e ≡ slice_index_or was (v + 1) e)
      → ((d : Flow K) (e : Came) → StepsFlow contents faults (told_for (is_for place (k + 1)) told) (slice_index_or now k d) (slice_index_or new k d) (slice_index_or here (k + 1) e) (slice_index_or is (k + 1) e))
      → ((v : ℕ) (d : Flow K) → v ≢ k → slice_index_or new v d ≡ slice_index_or now v d)
      → ((v : ℕ) (e : Came) → v ≢ k + 1 → slice_index_or is v e ≡ slice_index_or here v e)
      → (v : ℕ) (d : Flow K) (e : Came) → v < suc k
      → StepsFlow contents faults (told_for (is_for place (v + 1)) told) (slice_index_or old v d) (slice_index_or new v d) (slice_index_or was (v + 1) e) (slice_index_or is (v + 1) e)
  done_more k old now new was here is done rest rooms steps others other_rooms v d e low = by_order (cases_lt v k)
    where
      by_order : (v < k) ⊎ (k ≤ v) → StepsFlow contents faults (told_for (is_for place (v + 1)) told) (slice_index_or old v d) (slice_index_or new v d) (slice_index_or was (v + 1) e) (slice_index_or is (v + 1) e)
      by_order (inl less) =
          let apart : v ≢ k = λ same. omega (arith, less, same) in
          let apart_room : v + 1 ≢ k + 1 = λ same. omega (arith, less, same) in
          subst (λ (y : Came). StepsFlow contents faults (told_for (is_for place (v + 1)) told) (slice_index_or old v d) (slice_index_or new v d) (slice_index_or was (v + 1) e) y) (sym (other_rooms (v + 1) e apart_room))
          (subst (λ (x : Flow K). StepsFlow contents faults (told_for (is_for place (v + 1)) told) (slice_index_or old v d) x (slice_index_or was (v + 1) e) (slice_index_or here (v + 1) e)) (sym (others v d apart)) (done v d e less))
      by_order (inr more) =
          let same : k ≡ v = omega (arith, low, more) in
          subst (λ (n : ℕ). StepsFlow contents faults (told_for (is_for place (n + 1)) told) (slice_index_or old n d) (slice_index_or new n d) (slice_index_or was (n + 1) e) (slice_index_or is (n + 1) e)) same
          (subst (λ (y : Came). StepsFlow contents faults (told_for (is_for place (k + 1)) told) (slice_index_or old k d) (slice_index_or new k d) y (slice_index_or is (k + 1) e)) (rooms k e (omega arith))
          (subst (λ (x : Flow K). StepsFlow contents faults (told_for (is_for place (k + 1)) told) x (slice_index_or new k d) (slice_index_or here (k + 1) e) (slice_index_or is (k + 1) e)) (rest k d (omega arith)) (steps d e)))

  -- the first made its step, and then those behind it
  pub first_and_more : (first next : Flow K) (old new : List (Flow K)) (was here is : List Came)
      → ((e : Came) → StepsFlow contents faults (told_for (is_for place 0) told) first next (slice_index_or was 0 e) (slice_index_or here 0 e))
      → ((w : ℕ) (e : Came) → w ≢ 0 → slice_index_or here w e ≡ slice_index_or was w e)
      → ((v : ℕ) (d : Flow K) (e : Came) → v < length old → StepsFlow contents faults (told_for (is_for place (v + 1)) told) (slice_index_or old v d) (slice_index_or new v d) (slice_index_or here (v + 1) e) (slice_index_or is (v + 1) e))
      → ((e : Came) → slice_index_or is 0 e ≡ slice_index_or here 0 e)
      → AllStep contents faults place told (first ∷ old) (next ∷ new) was is
  first_and_more first next old new was here is step rooms steps room zero flow after had came at_old at_new at_was at_is =
      let mine = told_for (is_for place 0) told in
      subst (λ (x : Flow K). StepsFlow contents faults mine x after had came) (some_same first flow at_old)
      (subst (λ (x : Flow K). StepsFlow contents faults mine first x had came) (some_same next after at_new)
      (subst (λ (x : Came). StepsFlow contents faults mine first next x came) (get_or_from_slice_get was 0 had came at_was)
      (subst (λ (x : Came). StepsFlow contents faults mine first next (slice_index_or was 0 came) x) (sym (room came) ∙ get_or_from_slice_get is 0 came came at_is) (step came))))
  first_and_more first next old new was here is step rooms steps room (suc v) flow after had came at_old at_new at_was at_is =
      let at : v + 1 ≡ suc v = omega arith in
      let mine = told_for (is_for place (v + 1)) told in
      let not_first : v + 1 ≢ 0 = λ same. omega (arith, same) in
      let had_at : slice_index_or here (v + 1) came ≡ had = rooms (v + 1) came not_first ∙ get_or_from_slice_get was (v + 1) had came (subst (λ (n : ℕ). slice_get was n ≡ Some had) (sym at) at_was) in
      let came_at : slice_index_or is (v + 1) came ≡ came = get_or_from_slice_get is (v + 1) came came (subst (λ (n : ℕ). slice_get is n ≡ Some came) (sym at) at_is) in
      subst (λ (n : ℕ). StepsFlow contents faults (told_for (is_for place n) told) flow after had came) at
      (subst (λ (x : Flow K). StepsFlow contents faults mine x after had came) (get_or_from_slice_get old v flow flow at_old)
      (subst (λ (x : Flow K). StepsFlow contents faults mine (slice_index_or old v flow) x had came) (get_or_from_slice_get new v after flow at_new)
      (subst (λ (x : Came). StepsFlow contents faults mine (slice_index_or old v flow) (slice_index_or new v flow) x came) had_at
      (subst (λ (x : Came). StepsFlow contents faults mine (slice_index_or old v flow) (slice_index_or new v flow) (slice_index_or here (v + 1) came) x) came_at
      (steps v flow came (slice_get_within old v flow at_old))))))

-- ---- all of them

pub at_some : {A : Type 0} (xs : List A) (v : ℕ) → v < length xs → (x : A) × (slice_get xs v ≡ Some x)
at_some [] v less = absurd (omega (arith, less))
at_some (x ∷ xs) zero less = (x, refl)
at_some (x ∷ xs) (suc v) less = at_some xs v (omega (arith, less))

no_end : (own : Bool) (w : What) → IsNoEnd w → IsNoEnd (what_for own w)
no_end true w n = n
no_end false (whats.Media a) n = n
no_end false (whats.Control c) n = n
no_end false whats.Keepalive n = n
no_end false whats.Refused n = n
no_end false whats.Tick n = n
no_end false whats.End n = absurd n

-- what was told nothing stands for no steps
desk_new : (given : Given) (d : DeskState) → d.kept ≡ Some [] → IsNew given d → IsDesk given d
desk_new given d none new = record {
  settings = new.settings;
  limit = new.limit;
  tells_steps = new.tells_steps;
  going = λ ended. cc (new.running, ended);
  faults = subst (λ (p : Phase). RoseWhere (is_failed p) given.faults d.faults) (sym new.running) new.faults;
  stands = λ list is. subst (λ (l : List Step). StandsFor given d (reverse l)) (sym (new.steps list is))
      (record { legal = tt; receiver = new.receiver; phase = new.running; shutter = new.shutter; tells = new.tells_octets; sink = new.octets });
}

module _ {K : Type 0} (contents : K → Option (List ℕ)) (faults : K → ℕ) where
  pub all_new : (given : ℕ → Given) (flows : List (Flow K)) → AreNew given contents faults flows → FanStands given contents faults flows []
  all_new given flows new v flow at = desk_new (given v) (kept_with flow.receiver (contents flow.sink) (faults flow.sink) []) refl (new v flow at)

  -- what one receiver did, as the desk's lemmas read it
  stepped : (told : Told) (old new : Flow K) (was is : Came) (before : List Step) → StepsFlow contents faults told old new was is
      → Stepped told (outcome_in is) (kept_with old.receiver (contents old.sink) (faults old.sink) before)
      (kept_with new.receiver (contents new.sink) (faults new.sink) (added (step_after told (outcome_in is)) before))
  stepped told old new was is before s = record { work = s.work; cause = s.cause }

  -- one receiver stands for what it sees of one more step
  one_stands : (given : Given) (told : Told) (old new : Flow K) (was is : Came) (before : List Step) → IsNoEnd told.what → StepsFlow contents faults told old new was is
      → Stands given contents faults old.receiver old.sink before
      → Stands given contents faults new.receiver new.sink (added (step_after told (outcome_in is)) before)
  one_stands given told old new was is before none s stands =
      stands_more given told is.answer is.outs old.receiver new.receiver (contents old.sink) (contents new.sink) (faults old.sink) (faults new.sink) before none
      (stepped told old new was is before s) (λ stop. let same = s.same stop in (same.0, ap contents same.1, ap faults same.1)) stands

  pub all_stand : (given : ℕ → Given) (place : Option ℕ) (told : Told) (old new : List (Flow K)) (was is : List Came) (before : List FanStep)
      → length new ≡ length old → length was ≡ length old → length is ≡ length was → IsNoEnd told.what
      → AllStep contents faults place told old new was is
      → FanStands given contents faults old before → FanStands given contents faults new (step_come place told is ∷ before)
  all_stand given place told old new was is before as_many room as_long none steps stands v flow at =
      let inside : v < length old = subst (λ (n : ℕ). v < n) as_many (slice_get_within new v flow at) in
      let held = at_some old v inside in
      let had = at_some was v (subst (λ (n : ℕ). v < n) (sym room) inside) in
      let came = at_some is v (subst (λ (n : ℕ). v < n) (sym (as_long ∙ room)) inside) in
      let mine = told_for (is_for place v) told in
      let sees = sees_own place told (map outcome_in is) before v (outcome_in came.0) (slice_get-map outcome_in is v ∙ ap (option_map outcome_in) came.1) in
      subst (λ (l : List Step). Stands (given v) contents faults flow.receiver flow.sink l) (sym sees)
      (one_stands (given v) mine held.0 flow had.0 came.0 (seen v before) (no_end (is_for place v) told.what none)
      (steps v held.0 flow had.0 came.0 held.1 at had.1 came.1) (stands v held.0 held.1))

  -- one receiver answered what is due after what it saw
  pub all_answer : (given : ℕ → Given) (place : Option ℕ) (told : Told) (old new : List (Flow K)) (was is : List Came) (before : List FanStep)
      → length new ≡ length old → length was ≡ length old
      → AllStep contents faults place told old new was is
      → FanStands given contents faults old before → AllAnswer given before place told was is
  all_answer given place told old new was is before as_many room steps stands v had came at_was at_is =
      let inside : v < length old = subst (λ (n : ℕ). v < n) room (slice_get_within was v had at_was) in
      let held = at_some old v inside in
      let next = at_some new v (subst (λ (n : ℕ). v < n) (sym as_many) inside) in
      let one : Flow K = held.0 in
      let after : Flow K = next.0 in
      let mine = told_for (is_for place v) told in
      let step : StepsFlow contents faults mine one after had came = steps v one after had came held.1 next.1 at_was at_is in
      answers_after (given v) mine came.answer had.outs came.outs one.receiver after.receiver (contents one.sink) (contents after.sink) (faults one.sink) (faults after.sink) (seen v before)
      (stepped mine one after had came (seen v before) step) step.outs (stands v one held.1)

  -- and its figures are those of what it saw
  pub all_figures : (given : ℕ → Given) (place : Option ℕ) (told : Told) (old new : List (Flow K)) (was is : List Came) (before : List FanStep)
      → length new ≡ length old → length was ≡ length old → length is ≡ length was → IsNoEnd told.what
      → AllStep contents faults place told old new was is
      → FanStands given contents faults old before → AllFigures given (step_come place told is ∷ before) is
  all_figures given place told old new was is before as_many room as_long none steps stands v came at_is =
      let inside : v < length old = subst (λ (n : ℕ). v < n) (as_long ∙ room) (slice_get_within is v came at_is) in
      let held = at_some old v inside in
      let next = at_some new v (subst (λ (n : ℕ). v < n) (sym as_many) inside) in
      let had = at_some was v (subst (λ (n : ℕ). v < n) (sym room) inside) in
      let one : Flow K = held.0 in
      let after : Flow K = next.0 in
      let prior : Came = had.0 in
      let step : StepsFlow contents faults (told_for (is_for place v) told) one after prior came = steps v one after prior came held.1 next.1 had.1 at_is in
      figures_kept (given v) after.receiver (contents after.sink) (faults after.sink) (seen v (step_come place told is ∷ before)) came.figures
      (all_stand given place told old new was is before as_many room as_long none steps stands v after next.1) step.figures

  pub all_end : (given : ℕ → Given) (old new : List (Flow K)) (was is : List Came) (before : List FanStep)
      → length new ≡ length old → length was ≡ length old
      → AllStep contents faults None end_told old new was is
      → FanStands given contents faults old before → FanEnded given contents faults new before is
  all_end given old new was is before as_many room steps stands v flow came at at_is =
      let inside : v < length old = subst (λ (n : ℕ). v < n) as_many (slice_get_within new v flow at) in
      let held = at_some old v inside in
      let was_at = at_some was v (subst (λ (n : ℕ). v < n) (sym room) inside) in
      let one : Flow K = held.0 in
      let had : Came = was_at.0 in
      let step : StepsFlow contents faults end_told one flow had came = steps v one flow had came held.1 at was_at.1 at_is in
      let old_stands : Stands (given v) contents faults one.receiver one.sink (seen v before) = stands v one held.1 in
      let sees : seen v (step_come None end_told is ∷ before) ≡ with_end (seen v before) came.answer came.outs =
      sees_own None end_told (map outcome_in is) before v (outcome_in came) (slice_get-map outcome_in is v ∙ ap (option_map outcome_in) at_is) in
      let done = stepped end_told one flow had came (seen v before) step in
      record {
        stands = subst (λ (l : List Step). StandsFor (given v) (kept_with flow.receiver (contents flow.sink) (faults flow.sink) l) l) (sym sees)
            (stands_ended (given v) came.answer came.outs one.receiver flow.receiver (contents one.sink) (contents flow.sink) (faults one.sink) (faults flow.sink) (seen v before) done
            (λ stop. let same = step.same stop in (same.0, ap contents same.1, ap faults same.1)) old_stands);
        settings = step.work.settings ∙ old_stands.settings;
        cause = end_cause (given v) came.answer came.outs _ _ old_stands done (λ stop. ap faults (step.same stop).1);
      }
