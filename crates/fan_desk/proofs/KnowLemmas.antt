-- What a pass knows of places that made no step in a row of its own.
use Rattle.std.proofs.Common.{◌≡◌, ◌⊎◌, inl, inr, ◌<◌, ℕ, Bool, true, false, length, List, slice_get, unwrap_or, Option, None, Some, refl, ap, sym, ◌∙◌, subst}
use Rattle.rist_reporter.specs.declared.out.Outs.{Outs}
use Rattle.rist_ends.specs.declared.told.Told.{Told}
use Rattle.rist_ends.specs.declared.outcome.Answer.{Answer}
use Rattle.rist_ends.specs.declared.outcome.Answer.TheVariants as answers
use Rattle.rist_ends.specs.Outcome.{outcome_with}
use Rattle.rist_desk.specs.declared.step.Step.{Step}
use Rattle.rist_desk.specs.Made.{step_after}
use Rattle.rist_desk.specs.Desk.{Given, is_cut_off}
use Rattle.turn_lock.specs.History.{added}
use Rattle.turn_lock.specs.declared.pass.Pass.{Pass}
use Rattle.turn_lock.specs.Passes.{Stepped, entries_with}
use Rattle.rist_fan.specs.declared.flow.Came.{Came}
use Rattle.rist_fan.specs.Fan.{step_come}
use Rattle.rist_fan.specs.Seen.{FanStep, is_for, told_for}
use Rattle.rist_fan.proofs.FanLemmas.{at_some}
use Rattle.fan_desk.specs.declared.told.FanTold.{FanTold}
use Rattle.fan_desk.specs.Rows.{Answers, are_all_stopped, row_added, row_unless}
use Rattle.fan_desk.specs.Own.{HasSeenFault, KnowsEnds, MadeNone}
use Rattle.fan_desk.proofs.MadeLemmas.{seen_at}
use Rattle.fan_desk.proofs.OwnLemmas.{cut_seen, ended_stays}

-- no step was made by a place that had ended
no_step : (told : Told) (a : Answer) (outs : Outs) → step_after told (outcome_with a outs) ≡ None → is_cut_off a ≡ true
no_step told answers.Stopped outs e = refl
no_step told answers.WriteFault outs e = absurd (cc (e))
no_step told (answers.Verdict v) outs e = absurd (cc (e))
no_step told answers.Spent outs e = absurd (cc (e))
no_step told answers.Made outs e = absurd (cc (e))
no_step told answers.Nothing outs e = absurd (cc (e))

stopped_cut : (a : Answer) → a ≡ answers.Stopped → is_cut_off a ≡ true
stopped_cut a is = ap is_cut_off is

module _ {X : Type 0} (given : ℕ → Given) (places : ℕ) (ask : FanTold) (was is : List Came) (old new : Pass FanStep X) where
  pub knows_more : Stepped row_added (Answers given) old new ask was is tt → length is ≡ places → KnowsEnds places old → KnowsEnds places new
  knows_more s many knows v low none =
      by_all (are_all_stopped is) refl (subst (MadeNone v) s.own none)
    where
      came : (c : Came) × (slice_get is v ≡ Some c)
      came = at_some is v (subst (λ (n : ℕ). v < n) (sym many) low)

      before : MadeNone v (entries_with old) → HasSeenFault v new
      before m = cut_seen given ask was is old new s v came.0 came.1 (stopped_cut came.0.answer (ended_stays given ask was is old new s v came.0 came.1 (knows v low m)))

      now : slice_get (step_come ask.place ask.told is).steps v ≡ Some None → HasSeenFault v new
      now e =
          let told = told_for (is_for ask.place v) ask.told in
          let gone : step_after told (outcome_with came.0.answer came.0.outs) ≡ None =
          sym (seen_at ask.place ask.told is v came.0 came.1) ∙ ap (λ (o : Option (Option Step)). unwrap_or o None) e in
          cut_seen given ask was is old new s v came.0 came.1 (no_step told came.0.answer came.0.outs gone)

      either : (slice_get (step_come ask.place ask.told is).steps v ≡ Some None) ⊎ MadeNone v (entries_with old) → HasSeenFault v new
      either (inl e) = now e
      either (inr m) = before m

      by_all : (b : Bool) → are_all_stopped is ≡ b → MadeNone v (added (row_added ask is tt) (entries_with old)) → HasSeenFault v new
      by_all true all m = before (subst (λ (c : Bool). MadeNone v (added (row_unless c (step_come ask.place ask.told is)) (entries_with old))) all m)
      by_all false all m = either (subst (λ (c : Bool). MadeNone v (added (row_unless c (step_come ask.place ask.told is)) (entries_with old))) all m)
