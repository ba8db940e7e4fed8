-- What a pass owns and knows with one more step.
use Rattle.std.proofs.Common.{◌≡◌, ◌≢◌, true, List, [], ◌∷◌, ◌++◌, reverse, Option, None, Some, option_map, refl, ap, sym, ◌∙◌, subst}
use Rattle.std.proofs.lemmas.List.{reverse-append, reverse-reverse}
use Rattle.reorder_buffer.specs.declared.phase.Phase.TheVariants.{Open}
use Rattle.rist_reporter.specs.declared.out.Outs.{Outs}
use Rattle.rist_ends.specs.declared.told.Told.{Told}
use Rattle.rist_ends.specs.declared.outcome.Outcome.{Outcome}
use Rattle.rist_ends.specs.declared.outcome.Outcome.TheVariants as outcomes
use Rattle.rist_ends.specs.declared.outcome.Answer.{Answer}
use Rattle.rist_ends.specs.declared.outcome.Answer.TheVariants as answers
use Rattle.rist_ends.specs.Outcome.{outcome_with}
use Rattle.rist_desk.specs.declared.step.Step.{Step}
use Rattle.rist_desk.specs.Legal.{phase_of}
use Rattle.rist_desk.specs.Made.{step_after, steps_with}
use Rattle.rist_desk.specs.declared.figured.Figured.{Figured}
use Rattle.rist_desk.specs.Desk.{AreFiguresAfter, AreFiguresThere, Given, IsDueAfter, is_cut_off}
use Rattle.rist_desk.specs.Sending.{IsDueThere}
use Rattle.rist_desk.specs.Work.{SeesWith}
use Rattle.turn_lock.specs.History.{added}
use Rattle.turn_lock.specs.declared.pass.Pass.{Pass}
use Rattle.turn_lock.specs.declared.rule.Turn.{Turn}
use Rattle.turn_lock.specs.Turns.{entries}
use Rattle.turn_lock.specs.Passes.{IsPassOf, Stepped, entries_with, turns_seen}
use Rattle.turn_desk.specs.declared.desk.TurnDesk.{TurnDesk}
use Rattle.turn_desk.specs.declared.shared.Shared.{Shared}
use Rattle.turn_desk.specs.Stands.{Answers, AnswersFigured, figured_added, step_added}
use Rattle.turn_desk.specs.Own.{AreOf, IsOf, HasSeenFault, all_seen}
use Rattle.turn_desk.proofs.SharedLemmas.{kept_more}

-- what turns added, and what earlier ones did
pub entries_both : {E : Type 0} (a b : List (Turn E)) → entries (a ++ b) ≡ entries a ++ entries b
entries_both [] b = refl
entries_both {E = E} (t ∷ a) b = ap (added t.entry) (entries_both a b) ∙ added_first t.entry (entries a) (entries b)
  where
    added_first : (e : Option E) (l m : List E) → added e (l ++ m) ≡ added e l ++ m
    added_first None l m = refl
    added_first (Some x) l m = refl

pub owns_more : (e : Option Step) (l m : List Step) → m ≡ added e l → Some (reverse m) ≡ option_map (steps_with e) (Some (reverse l))
owns_more e l m is = ap (λ (x : List Step). Some (reverse x)) is ∙ kept_more e l

-- one more step of the link
of_added : (told : Told) (o : Outcome) (steps : List Step) → AreOf told.link steps → AreOf told.link (added (step_after told o) steps)
of_added told outcomes.Stopped steps a = a
of_added told outcomes.WriteFault steps a = (refl, a)
of_added told (outcomes.Verdict v) steps a = (refl, a)
of_added told outcomes.Spent steps a = (refl, a)
of_added told (outcomes.Made outs) steps a = (refl, a)
of_added told outcomes.Nothing steps a = (refl, a)

pub still_of : {N K : Type 0} (desk : TurnDesk N K) (given : Given) (told : Told) (was is : Outs) (answer : Answer) (old new : Pass Step (Shared N K)) → IsOf desk told.link old
    → IsPassOf desk.lock new → Stepped step_added (Answers given) old new told was is answer → IsOf desk told.link new
still_of desk given told was is answer old new own pass_of s = record {
  own = pass_of;
  number = s.number_same ∙ own.number;
  steps = subst (AreOf told.link) (sym s.own) (of_added told (outcome_with answer is) (entries_with old) own.steps);
}

-- a step that tells figures is a step
pub as_answered : {X : Type 0} (given : Given) (old new : Pass Step X) (told : Told) (was is : Outs) (figured : Figured) → Stepped figured_added (AnswersFigured given) old new told was is figured → Stepped step_added (Answers given) old new told was is figured.answer
as_answered given old new told was is figured s = record {
  since = s.since;
  seen = s.seen;
  own = s.own;
  number_same = s.number_same;
  left = s.left;
  answered = s.answered.answers;
}

pub figures_told : (given : Given) (before : List Step) (told : Told) (was is : Outs) (figured : Figured) → AnswersFigured given before told was is figured → AreFiguresThere given told (outcome_with figured.answer is) figured.figures
figures_told given before told was is figured a = record {
  before = Some (reverse before);
  tells = sym a.answers.tells;
  after = λ list some.
      let same : reverse (added (step_added told is figured.answer) before) ≡ list = cc (kept_more (step_added told is figured.answer) before ∙ some) in
      subst (λ (l : List Step). AreFiguresAfter given l figured.figures) (sym (reverse-reverse (added (step_added told is figured.answer) before)) ∙ ap (λ (l : List Step). reverse l) same) a.figures;
}

-- what a pass saw before a step, and with it
seen_more : {X : Type 0} (given : Given) (told : Told) (was is : Outs) (answer : Answer) (old new : Pass Step X) (s : Stepped step_added (Answers given) old new told was is answer)
    → SeesWith (all_seen old) (all_seen new) (Some (reverse (entries (s.since ++ turns_seen old)))) (step_added told is answer)
seen_more given told was is answer old new s = (
  record {
    later = reverse (entries s.since);
    is = ap (λ (l : List Step). reverse l) (entries_both s.since (turns_seen old)) ∙ reverse-append (entries s.since) (entries (turns_seen old));
  },
  ap (λ (ts : List (Turn Step)). Some (reverse (entries ts))) s.seen ∙ kept_more (step_added told is answer) (entries (s.since ++ turns_seen old)),
)

pub due_there : {X : Type 0} (given : Given) (told : Told) (was is : Outs) (answer : Answer) (old new : Pass Step X) → Stepped step_added (Answers given) old new told was is answer
    → IsDueThere given (all_seen old) (all_seen new) told (outcome_with answer is)
due_there given told was is answer old new s =
    let before = entries (s.since ++ turns_seen old) in
    let a = s.answered in
    record {
      kept = Some (reverse before);
      tells = sym a.tells;
      due = λ list e. let same : reverse before ≡ list = cc (e) in subst (λ (l : List Step). IsDueAfter given (reverse l) told (outcome_with answer is)) same (subst (λ (l : List Step). IsDueAfter given l told (outcome_with answer is)) (sym (reverse-reverse before)) a.due);
      seen = seen_more given told was is answer old new s;
    }

-- a step that found a failed write, or in which one failed
after_cut : (given : Given) (before : List Step) (told : Told) (was is : Outs) (answer : Answer) → Answers given before told was is answer → is_cut_off answer ≡ true
    → phase_of (added (step_added told is answer) before) ≢ Open
after_cut given before told was is answers.Stopped a cut = a.stopped refl
after_cut given before told was is answers.WriteFault a cut = λ e. cc (e)
after_cut given before told was is (answers.Verdict v) a cut = absurd (cc (cut))
after_cut given before told was is answers.Spent a cut = absurd (cc (cut))
after_cut given before told was is answers.Made a cut = absurd (cc (cut))
after_cut given before told was is answers.Nothing a cut = absurd (cc (cut))

pub fault_seen : {X : Type 0} (given : Given) (told : Told) (was is : Outs) (answer : Answer) (old new : Pass Step X) → Stepped step_added (Answers given) old new told was is answer
    → is_cut_off answer ≡ true → HasSeenFault new
fault_seen given told was is answer old new s cut =
    subst (λ (ts : List (Turn Step)). phase_of (entries ts) ≢ Open) (sym s.seen) (after_cut given (entries (s.since ++ turns_seen old)) told was is answer s.answered cut)
