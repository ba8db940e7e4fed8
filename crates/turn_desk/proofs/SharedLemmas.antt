-- A receiver and its sink with one more step.
use Rattle.std.proofs.Common.{◌≡◌, ◌≢◌, ℕ, List, [], ◌∷◌, ◌++◌, reverse, Option, None, Some, option_map, refl, ap, sym, ◌∙◌, subst}
use Rattle.std.proofs.lemmas.List.{reverse-reverse}
use Rattle.rist_reporter.specs.declared.out.Outs.{Outs}
use Rattle.rist_ends.specs.declared.told.Told.{Told}
use Rattle.rist_ends.specs.Told.{IsNoEnd}
use Rattle.rist_ends.specs.declared.outcome.Answer.{Answer}
use Rattle.rist_ends.specs.declared.outcome.Answer.TheVariants as answers
use Rattle.rist_ends.specs.Outcome.{outcome_with}
use Rattle.rist_ends.specs.Receiver.{ReceiverState}
use Rattle.rist_desk.specs.declared.step.Step.{Step}
use Rattle.rist_desk.specs.Legal.{phase_of}
use Rattle.rist_desk.specs.Made.{step_after, steps_with}
use Rattle.outside_net.specs.declared.figures.ReceiverFigures.{ReceiverFigures}
use Rattle.rist_ends.specs.Figures.{figures_of}
use Rattle.rist_desk.specs.Desk.{AreFiguresAfter, Given, IsDesk, IsDueAfter, MakesDue}
use Rattle.rist_desk.proofs.FigureLemmas.{figures_after}
use Rattle.rist_desk.proofs.ListLemmas.{reverse_more}
use Rattle.rist_desk.proofs.DeskLemmas.{Stepped, desk_with, makes_due, due_after, answer_stopped}
use Rattle.turn_lock.specs.History.{added}
use Rattle.turn_desk.specs.Stands.{kept_with, Answers}

reverse_first : (x : Step) (steps : List Step) → reverse (x ∷ steps) ≡ reverse steps ++ x ∷ []
reverse_first x steps =
    ap (λ (l : List Step). reverse (x ∷ l)) (sym (reverse-reverse steps))
    ∙ (ap (λ (l : List Step). reverse l) (sym (reverse_more (reverse steps) x)) ∙ reverse-reverse (reverse steps ++ x ∷ []))

pub kept_more : (s : Option Step) (steps : List Step) → Some (reverse (added s steps)) ≡ option_map (steps_with s) (Some (reverse steps))
kept_more None steps = refl
kept_more (Some s) steps = ap Some (reverse_first s steps)

-- what a step did, as the desk's lemmas read it
abbrev pub Same : ReceiverState → ReceiverState → Option (List ℕ) → Option (List ℕ) → ℕ → ℕ → Type 0
Same r s c e f n = (s ≡ r) × (e ≡ c) × (n ≡ f)

pub stands_more : (given : Given) (told : Told) (answer : Answer) (outs : Outs) (r s : ReceiverState) (c e : Option (List ℕ)) (f n : ℕ) (before : List Step)
    → IsNoEnd told.what
    → Stepped told (outcome_with answer outs) (kept_with r c f before) (kept_with s e n (added (step_after told (outcome_with answer outs)) before))
    → (answer ≡ answers.Stopped → Same r s c e f n)
    → IsDesk given (kept_with r c f before) → IsDesk given (kept_with s e n (added (step_after told (outcome_with answer outs)) before))
stands_more given told answer outs r s c e f n before no_end step same old =
    let o = outcome_with answer outs in
    desk_with given told o (kept_with r c f before) (kept_with s e n (added (step_after told o) before)) no_end step (λ is. same (answer_stopped answer outs is)) (kept_more (step_after told o) before) refl step.work.settings old

pub answers_after : (given : Given) (told : Told) (answer : Answer) (was is : Outs) (r s : ReceiverState) (c e : Option (List ℕ)) (f n : ℕ) (before : List Step)
    → Stepped told (outcome_with answer is) (kept_with r c f before) (kept_with s e n (added (step_after told (outcome_with answer is)) before))
    → (answer ≢ answers.Made → is ≡ was)
    → IsDesk given (kept_with r c f before) → Answers given before told was is answer
answers_after given told answer was is r s c e f n before step outs old =
    let o = outcome_with answer is in
    let d = kept_with r c f before in
    let x = kept_with s e n (added (step_after told o) before) in
    let twice = reverse-reverse before in
    let phase = (old.stands (reverse before) refl).phase ∙ ap phase_of twice in
    record {
      tells = sym old.tells_steps;
      due = subst (λ (l : List Step). IsDueAfter given l told o) twice (due_after given told o d x old step (reverse before) refl);
      opened = λ made. subst (λ (l : List Step). MakesDue given l told is) twice (makes_due given told answer is d x old step made (reverse before) refl);
      outs = outs;
      stopped = λ stop going. step.work.stopped (ap (λ (a : Answer). outcome_with a is) stop) (phase ∙ going);
      ended = λ not. answer_stopped answer is (step.work.ended (λ going. not (sym phase ∙ going)));
    }

-- the figures of a receiver that stands for these steps
pub figures_kept : (given : Given) (r : ReceiverState) (c : Option (List ℕ)) (n : ℕ) (steps : List Step) (f : ReceiverFigures) → IsDesk given (kept_with r c n steps) → f ≡ figures_of r → AreFiguresAfter given steps f
figures_kept given r c n steps f desk is =
    subst (λ (l : List Step). AreFiguresAfter given l f) (reverse-reverse steps) (figures_after given (kept_with r c n steps) (reverse (reverse steps)) f desk (desk.stands (reverse steps) refl) is)
