-- One more row of a history, to each place by itself.
use Rattle.std.proofs.Common.{◌≡◌, ◌<◌, ℕ, zero, suc, Bool, true, false, length, map, List, [], ◌∷◌, slice_get, if◌then◌else◌, ◌&&◌, ◌==◌, Option, None, Some, option_map, refl, ap, sym, ◌∙◌, subst}
use Rattle.std.proofs.lemmas.Option.{slice_get_within, slice_get-map}
use Rattle.rist_ends.specs.declared.told.Told.{Told}
use Rattle.rist_ends.specs.declared.told.What.{What}
use Rattle.rist_ends.specs.declared.told.What.TheVariants as whats
use Rattle.rist_ends.specs.declared.outcome.Outcome.{Outcome}
use Rattle.rist_ends.specs.declared.outcome.Answer.{Answer}
use Rattle.rist_ends.specs.declared.outcome.Answer.TheVariants as answers
use Rattle.rist_ends.specs.Outcome.{outcome_with}
use Rattle.rist_desk.specs.declared.step.Step.{Step}
use Rattle.rist_desk.specs.Made.{step_after}
use Rattle.rist_desk.specs.Desk.{AreFiguresAfter, Given}
use Rattle.turn_lock.specs.History.{added}
use Rattle.turn_lock.specs.declared.rule.Turn.{Turn}
use Rattle.turn_lock.specs.Turns.{entries, of}
use Rattle.turn_desk.specs.Stands.{Stands}
use Rattle.rist_fan.specs.declared.flow.Flow.{Flow}
use Rattle.rist_fan.specs.declared.flow.Came.{Came}
use Rattle.rist_fan.specs.Fan.{AllFigures, FanStands, outcome_in, step_come}
use Rattle.rist_fan.specs.Seen.{FanStep, fan_step, is_for, seen, told_for, what_for}
use Rattle.rist_fan.proofs.FanLemmas.{at_some, sees_own}
use Rattle.fan_desk.specs.declared.told.FanTold.{FanTold}
use Rattle.fan_desk.specs.Rows.{AreBeside, IsDatagram, are_all_stopped, entry_at, is_stopped, row_added, row_unless, turns_at}

-- ---- where each had ended

both_stopped : (a : Answer) (others : Bool) → (is_stopped a && others) ≡ true → (a ≡ answers.Stopped) × (others ≡ true)
both_stopped answers.Stopped others all = (refl, all)
both_stopped answers.WriteFault others all = absurd (cc (all))
both_stopped (answers.Verdict v) others all = absurd (cc (all))
both_stopped answers.Spent others all = absurd (cc (all))
both_stopped answers.Made others all = absurd (cc (all))
both_stopped answers.Nothing others all = absurd (cc (all))

pub stopped_at : (room : List Came) (v : ℕ) (came : Came) → slice_get room v ≡ Some came → are_all_stopped room ≡ true → came.answer ≡ answers.Stopped
stopped_at [] v came at all = absurd (cc (at))
stopped_at (x ∷ room) zero came at all = let same : x ≡ came = cc (at) in ap (λ (c : Came). c.answer) (sym same) ∙ (both_stopped x.answer (are_all_stopped room) all).0
stopped_at (x ∷ room) (suc v) came at all = stopped_at room v came at (both_stopped x.answer (are_all_stopped room) all).1

-- what a place sees of a row is its own step
pub sees_step : (place : Option ℕ) (told : Told) (room : List Came) (before : List FanStep) (v : ℕ) (came : Came) → slice_get room v ≡ Some came
    → seen v (step_come place told room ∷ before) ≡ added (step_after (told_for (is_for place v) told) (outcome_in came)) (seen v before)
sees_step place told room before v came at =
    sees_own place told (map outcome_in room) before v (outcome_in came) (slice_get-map outcome_in room v ∙ ap (option_map outcome_in) at)

-- and of a row that is left out, since no place made a step, it would have seen nothing
sees_none : (place : Option ℕ) (told : Told) (room : List Came) (before : List FanStep) (v : ℕ) (came : Came) → slice_get room v ≡ Some came → are_all_stopped room ≡ true
    → seen v (step_come place told room ∷ before) ≡ seen v before
sees_none place told room before v came at all =
    sees_step place told room before v came at
    ∙ ap (λ (a : Answer). added (step_after (told_for (is_for place v) told) (outcome_with a came.outs)) (seen v before)) (stopped_at room v came at all)

-- what a place sees of what a turn added
pub sees_added : (ask : FanTold) (room : List Came) (before : List FanStep) (v : ℕ) (came : Came) → slice_get room v ≡ Some came
    → seen v (added (row_added ask room tt) before) ≡ added (step_after (told_for (is_for ask.place v) ask.told) (outcome_in came)) (seen v before)
sees_added ask room before v came at = by_all (are_all_stopped room) refl
  where
    by_all : (b : Bool) → are_all_stopped room ≡ b
        → seen v (added (row_unless b (step_come ask.place ask.told room)) before) ≡ added (step_after (told_for (is_for ask.place v) ask.told) (outcome_in came)) (seen v before)
    by_all true all = sym (sees_none ask.place ask.told room before v came at all) ∙ sees_step ask.place ask.told room before v came at
    by_all false all = sees_step ask.place ask.told room before v came at

-- the figures of each are those of the history with what a turn added
pub figures_added : (given : ℕ → Given) (ask : FanTold) (room : List Came) (before : List FanStep) → AllFigures given (step_come ask.place ask.told room ∷ before) room
    → AllFigures given (added (row_added ask room tt) before) room
figures_added given ask room before all v came at =
    subst (λ (l : List Step). AreFiguresAfter (given v) l came.figures) (sees_step ask.place ask.told room before v came at ∙ sym (sees_added ask room before v came at)) (all v came at)

module _ {K : Type 0} (given : ℕ → Given) (contents : K → Option (List ℕ)) (faults : K → ℕ) where
  -- each stands for the history with what a turn added
  pub stand_added : (ask : FanTold) (room : List Came) (before : List FanStep) (flows : List (Flow K)) → length room ≡ length flows
      → FanStands given contents faults flows (step_come ask.place ask.told room ∷ before)
      → FanStands given contents faults flows (added (row_added ask room tt) before)
  stand_added ask room before flows as_many stands v flow at =
      let inside : v < length room = subst (λ (n : ℕ). v < n) (sym as_many) (slice_get_within flows v flow at) in
      let came = at_some room v inside in
      subst (λ (l : List Step). Stands (given v) contents faults flow.receiver flow.sink l)
      (sees_step ask.place ask.told room before v came.0 came.1 ∙ sym (sees_added ask room before v came.0 came.1)) (stands v flow at)

-- ---- what came for others

refused_for : (own : Bool) (w : What) → own ≡ false → IsDatagram w → what_for own w ≡ whats.Refused
refused_for true w apart is = absurd (cc (apart))
refused_for false (whats.Media a) apart is = refl
refused_for false (whats.Control c) apart is = refl
refused_for false whats.Keepalive apart is = refl
refused_for false whats.Refused apart is = refl
refused_for false whats.Tick apart is = absurd is
refused_for false whats.End apart is = absurd is

abbrev refused_at : ℕ → ℕ → Told
refused_at link us = record { link = link; us = us; what = whats.Refused }

told_others : (own other : Bool) (told instead : Told) → own ≡ false → other ≡ false → AreBeside told instead → told_for own told ≡ told_for other instead
told_others own other told instead apart apart_too b =
    ap (λ (w : What). record { link = told.link; us = told.us; what = w }) (refused_for own told.what apart b.one)
    ∙ (ap (λ (n : ℕ). refused_at n told.us) (sym b.link) ∙ (ap (λ (n : ℕ). refused_at instead.link n) (sym b.us)
    ∙ ap (λ (w : What). record { link = instead.link; us = instead.us; what = w }) (sym (refused_for other instead.what apart_too b.other))))

pub same_of_others : (place other : Option ℕ) (told instead : Told) (outcomes others : List Outcome) (o : Outcome) (v : ℕ) (history : List FanStep)
    → is_for place v ≡ false → is_for other v ≡ false → AreBeside told instead → slice_get outcomes v ≡ Some o → slice_get others v ≡ Some o
    → seen v (fan_step place told outcomes ∷ history) ≡ seen v (fan_step other instead others ∷ history)
same_of_others place other told instead outcomes others o v history apart apart_too b at at_others =
    sees_own place told outcomes history v o at
    ∙ (ap (λ (t : Told). added (step_after t o) (seen v history)) (told_others (is_for place v) (is_for other v) told instead apart apart_too b)
    ∙ sym (sees_own other instead others history v o at_others))

-- ---- turns of a place

seen_added : (v : ℕ) (e : Option FanStep) (rows : List FanStep) → added (entry_at v e) (seen v rows) ≡ seen v (added e rows)
seen_added v None rows = refl
seen_added v (Some row) rows = refl

pub entries_at : (turns : List (Turn FanStep)) (v : ℕ) → entries (turns_at v turns) ≡ seen v (entries turns)
entries_at [] v = refl
entries_at (t ∷ turns) v = ap (added (entry_at v t.entry)) (entries_at turns v) ∙ seen_added v t.entry (entries turns)

of_at_if : (b : Bool) (v : ℕ) (e : Option FanStep) (steps : List Step) (rows : List FanStep) → steps ≡ seen v rows
    → (if b then added (entry_at v e) steps else steps) ≡ seen v (if b then added e rows else rows)
of_at_if true v e steps rows same = ap (added (entry_at v e)) same ∙ seen_added v e rows
of_at_if false v e steps rows same = same

pub of_at : (turns : List (Turn FanStep)) (v k : ℕ) → of k (turns_at v turns) ≡ seen v (of k turns)
of_at [] v k = refl
of_at (t ∷ turns) v k = of_at_if (t.pass == k) v t.entry (of k (turns_at v turns)) (of k turns) (of_at turns v k)
