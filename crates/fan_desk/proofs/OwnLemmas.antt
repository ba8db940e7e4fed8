-- What a pass owns and knows with one more row.
use Rattle.std.proofs.Common.{◌≡◌, ◌≢◌, ◌<◌, ℕ, zero, suc, ◌+◌, Bool, true, false, map, List, [], ◌∷◌, ◌++◌, slice_get, unwrap_or, Option, None, Some, refl, ap, sym, ◌∙◌, subst}
use Rattle.std.proofs.lemmas.Option.{slice_get_within}
use Rattle.reorder_buffer.specs.declared.phase.Phase.TheVariants.{Open}
use Rattle.rist_reporter.specs.declared.out.Outs.{Outs}
use Rattle.rist_ends.specs.declared.told.Told.{Told}
use Rattle.rist_ends.specs.declared.outcome.Outcome.{Outcome}
use Rattle.rist_ends.specs.declared.outcome.Outcome.TheVariants as outcomes
use Rattle.rist_ends.specs.declared.outcome.Answer.{Answer}
use Rattle.rist_ends.specs.declared.outcome.Answer.TheVariants as answers
use Rattle.rist_ends.specs.Outcome.{outcome_with}
use Rattle.rist_desk.specs.declared.step.Step.{Step}
use Rattle.rist_desk.specs.Legal.{IsLegal, Setup, phase_of}
use Rattle.rist_desk.specs.Made.{step_after}
use Rattle.rist_desk.specs.Desk.{Given, is_cut_off, setup_of}
use Rattle.turn_lock.specs.History.{added}
use Rattle.turn_lock.specs.declared.pass.Pass.{Pass}
use Rattle.turn_lock.specs.declared.rule.Turn.{Turn}
use Rattle.turn_lock.specs.Turns.{entries}
use Rattle.turn_lock.specs.Passes.{IsPassOf, Stepped, entries_with, turns_seen}
use Rattle.turn_desk.specs.Own.{AreOf}
use Rattle.turn_desk.specs.Stands.{Answers as AnswersAlone}
use Rattle.rist_fan.specs.declared.fan.Fan.{Fan}
use Rattle.rist_fan.specs.declared.flow.Came.{Came}
use Rattle.rist_fan.specs.Fan.{outcome_in, step_come}
use Rattle.rist_fan.specs.Seen.{FanStep, is_for, row_from, seen, seen_in, told_for}
use Rattle.rist_fan.proofs.FanLemmas.{at_some}
use Rattle.fan_desk.specs.declared.desk.FanDesk.{FanDesk}
use Rattle.fan_desk.specs.declared.told.FanTold.{FanTold}
use Rattle.fan_desk.specs.Rows.{Answers, are_all_stopped, row_added, row_unless}
use Rattle.fan_desk.specs.Own.{AreRowsOf, HasSeenFault, IsOf}
use Rattle.fan_desk.proofs.RowLemmas.{sees_added}

-- ---- rows of a link

-- one more step of the link
of_added : (told : Told) (o : Outcome) (steps : List Step) → AreOf told.link steps → AreOf told.link (added (step_after told o) steps)
of_added told outcomes.Stopped steps a = a
of_added told outcomes.WriteFault steps a = (refl, a)
of_added told (outcomes.Verdict v) steps a = (refl, a)
of_added told outcomes.Spent steps a = (refl, a)
of_added told (outcomes.Made outs) steps a = (refl, a)
of_added told outcomes.Nothing steps a = (refl, a)

of_row : (place : Option ℕ) (told : Told) (from : ℕ) (outs : List Outcome) (v : ℕ) (steps : List Step) → AreOf told.link steps
    → AreOf told.link (added (unwrap_or (slice_get (row_from place told from outs) v) None) steps)
of_row place told from [] v steps a = a
of_row place told from (o ∷ outs) zero steps a = of_added (told_for (is_for place from) told) o steps a
of_row place told from (o ∷ outs) (suc v) steps a = of_row place told (from + 1) outs v steps a

-- a row of the link, or none
rows_where : (all : Bool) (place : Option ℕ) (told : Told) (room : List Came) (rows : List FanStep) → AreRowsOf told.link rows
    → AreRowsOf told.link (added (row_unless all (step_come place told room)) rows)
rows_where true place told room rows a = a
rows_where false place told room rows a = λ v. of_row place told 0 (map outcome_in room) v (seen v rows) (a v)

pub still_of : {N K : Type 0} (desk : FanDesk N K) (given : ℕ → Given) (ask : FanTold) (was is : List Came) (old new : Pass FanStep (Fan K)) → IsOf desk ask.told.link old
    → IsPassOf desk.lock new → Stepped row_added (Answers given) old new ask was is tt → IsOf desk ask.told.link new
still_of desk given ask was is old new own pass_of s = record {
  own = pass_of;
  number = s.number_same ∙ own.number;
  rows = subst (AreRowsOf ask.told.link) (sym s.own) (rows_where (are_all_stopped is) ask.place ask.told is (entries_with old) own.rows);
}

-- ---- a write that failed

added_before : (s : Option Step) (l m : List Step) → added s (l ++ m) ≡ added s l ++ m
added_before None l m = refl
added_before (Some s) l m = refl

pub seen_before : (v : ℕ) (since rows : List FanStep) → seen v (since ++ rows) ≡ seen v since ++ seen v rows
seen_before v [] rows = refl
seen_before v (row ∷ since) rows = ap (added (seen_in v row)) (seen_before v since rows) ∙ added_before (seen_in v row) (seen v since) (seen v rows)

row_before : (row : Option FanStep) (l m : List FanStep) → added row (l ++ m) ≡ added row l ++ m
row_before None l m = refl
row_before (Some row) l m = refl

pub rows_before : (since turns : List (Turn FanStep)) → entries (since ++ turns) ≡ entries since ++ entries turns
rows_before [] turns = refl
rows_before (t ∷ since) turns = ap (added t.entry) (rows_before since turns) ∙ row_before t.entry (entries since) (entries turns)

-- each step of a legal list was made while no write had failed
pub open_before : (setup : Setup) (s : Step) (later steps : List Step) → IsLegal setup (s ∷ later ++ steps) → phase_of steps ≡ Open
open_before setup s [] steps legal = legal.1.running
open_before setup s (t ∷ later) steps legal = open_before setup t later steps legal.0

-- no step is made after a failed write
stays_stopped : (given : Given) (told : Told) (later steps : List Step) (was is : Outs) (answer : Answer) → AnswersAlone given (later ++ steps) told was is answer
    → phase_of steps ≢ Open → answer ≡ answers.Stopped
stays_stopped given told later steps was is answers.Stopped a failed = refl
stays_stopped given told later steps was is answers.WriteFault a failed = absurd (failed (open_before (setup_of given) _ later steps (a.due _ refl).0))
stays_stopped given told later steps was is (answers.Verdict v) a failed = absurd (failed (open_before (setup_of given) _ later steps (a.due _ refl).0))
stays_stopped given told later steps was is answers.Spent a failed = absurd (failed (open_before (setup_of given) _ later steps (a.due _ refl).0))
stays_stopped given told later steps was is answers.Made a failed = absurd (failed (open_before (setup_of given) _ later steps (a.due _ refl).0))
stays_stopped given told later steps was is answers.Nothing a failed = absurd (failed (open_before (setup_of given) _ later steps (a.due _ refl).0))

-- a step that found a failed write, or in which one failed
after_cut : (given : Given) (before : List Step) (told : Told) (was is : Outs) (answer : Answer) → AnswersAlone given before told was is answer → is_cut_off answer ≡ true
    → phase_of (added (step_after told (outcome_with answer is)) before) ≢ Open
after_cut given before told was is answers.Stopped a cut = a.stopped refl
after_cut given before told was is answers.WriteFault a cut = λ e. cc (e)
after_cut given before told was is (answers.Verdict v) a cut = absurd (cc (cut))
after_cut given before told was is answers.Spent a cut = absurd (cc (cut))
after_cut given before told was is answers.Made a cut = absurd (cc (cut))
after_cut given before told was is answers.Nothing a cut = absurd (cc (cut))

module _ {X : Type 0} (given : ℕ → Given) (ask : FanTold) (was is : List Came) (old new : Pass FanStep X) where
  -- a place that had ended, by what the pass had seen, made no step
  pub ended_stays : Stepped row_added (Answers given) old new ask was is tt
      → (v : ℕ) (c : Came) → slice_get is v ≡ Some c → HasSeenFault v old → c.answer ≡ answers.Stopped
  ended_stays s v c at failed =
      let had = at_some was v (subst (λ (n : ℕ). v < n) s.answered.places (slice_get_within is v c at)) in
      let told = told_for (is_for ask.place v) ask.told in
      let list = ap (seen v) (rows_before s.since (turns_seen old)) ∙ seen_before v (entries s.since) (entries (turns_seen old)) in
      stays_stopped (given v) told (seen v (entries s.since)) (seen v (entries (turns_seen old))) had.0.outs c.outs c.answer
      (subst (λ (l : List Step). AnswersAlone (given v) l told had.0.outs c.outs c.answer) list (s.answered.each v had.0 c had.1 at)) failed

  -- a place that found a failed write, or where one failed, is seen to have ended
  pub cut_seen : Stepped row_added (Answers given) old new ask was is tt
      → (v : ℕ) (c : Came) → slice_get is v ≡ Some c → is_cut_off c.answer ≡ true → HasSeenFault v new
  cut_seen s v c at cut =
      let had = at_some was v (subst (λ (n : ℕ). v < n) s.answered.places (slice_get_within is v c at)) in
      let told = told_for (is_for ask.place v) ask.told in
      let before = entries (s.since ++ turns_seen old) in
      subst (λ (ts : List (Turn FanStep)). phase_of (seen v (entries ts)) ≢ Open) (sym s.seen)
      (subst (λ (l : List Step). phase_of l ≢ Open) (sym (sees_added ask is before v c at))
      (after_cut (given v) (seen v before) told had.0.outs c.outs c.answer (s.answered.each v had.0 c had.1 at) cut))
