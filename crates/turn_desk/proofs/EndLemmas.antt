-- What the end leaves.
use Rattle.std.proofs.Common.{◌≡◌, ℕ, List, reverse, Option, refl, sym, ◌∙◌, subst}
use Rattle.std.proofs.lemmas.List.{reverse-reverse}
use Rattle.outside_io.specs.Causes.{Rose, RoseWhere}
use Rattle.reorder_buffer.specs.declared.phase.Phase.{Phase}
use Rattle.reorder_buffer.specs.declared.phase.Phase.TheVariants.{Open, Ended, Failed}
use Rattle.rist_reporter.specs.declared.out.Outs.{Outs}
use Rattle.rist_ends.specs.declared.outcome.Answer.{Answer}
use Rattle.rist_ends.specs.declared.outcome.Answer.TheVariants as answers
use Rattle.rist_ends.specs.Outcome.{outcome_with}
use Rattle.rist_ends.specs.Receiver.{ReceiverState}
use Rattle.rist_desk.specs.declared.step.Step.{Step}
use Rattle.rist_desk.specs.Made.{end_told, step_after}
use Rattle.rist_desk.specs.Desk.{DeskState, Given, IsDesk, StandsFor, is_cut_off, is_failed}
use Rattle.rist_desk.proofs.DeskLemmas.{Stepped, stands_told, answer_stopped}
use Rattle.turn_desk.specs.Stands.{kept_with, with_end}
use Rattle.turn_desk.proofs.SharedLemmas.{Same, kept_more}

-- it goes on, or it failed
phase_open : (p : Phase) → (p ≡ Ended → ⊥) → (p ≡ Failed → ⊥) → p ≡ Open
phase_open Open e f = refl
phase_open Ended e f = absurd (e refl)
phase_open Failed e f = absurd (f refl)

failed_rose : (p : Phase) (n m : ℕ) → (p ≡ Open → ⊥) → (p ≡ Ended → ⊥) → RoseWhere (is_failed p) n m → Rose n m
failed_rose Open n m going ended r = absurd (going refl)
failed_rose Ended n m going ended r = absurd (ended refl)
failed_rose Failed n m going ended r = r

open_same : (p : Phase) (n m : ℕ) → p ≡ Open → RoseWhere (is_failed p) n m → m ≡ n
open_same Open n m e r = r
open_same Ended n m e r = absurd (cc (e))
open_same Failed n m e r = absurd (cc (e))

made_open : (p : Phase) → (p ≡ Ended → ⊥) → ((p ≡ Open → ⊥) → ⊥) → p ≡ Open
made_open Open e f = refl
made_open Ended e f = absurd (e refl)
made_open Failed e f = absurd (f (λ g. cc (g)))

pub end_cause : (given : Given) (answer : Answer) (outs : Outs) (d e : DeskState) → IsDesk given d → Stepped end_told (outcome_with answer outs) d e
    → (answer ≡ answers.Stopped → e.faults ≡ d.faults) → RoseWhere (is_cut_off answer) given.faults e.faults
end_cause given answers.Stopped outs d e desk step same =
    subst (λ (n : ℕ). Rose given.faults n) (sym (same refl)) (failed_rose d.receiver.buffer.phase given.faults d.faults (step.work.stopped refl) desk.going desk.faults)
end_cause given answers.WriteFault outs d e desk step same =
    let open_was = made_open d.receiver.buffer.phase desk.going (λ not. cc (step.work.ended not)) in
    subst (λ (n : ℕ). Rose n e.faults) (open_same d.receiver.buffer.phase given.faults d.faults open_was desk.faults) step.cause
end_cause given (answers.Verdict v) outs d e desk step same =
    step.cause ∙ open_same d.receiver.buffer.phase given.faults d.faults (made_open d.receiver.buffer.phase desk.going (λ not. cc (step.work.ended not))) desk.faults
end_cause given answers.Spent outs d e desk step same =
    step.cause ∙ open_same d.receiver.buffer.phase given.faults d.faults (made_open d.receiver.buffer.phase desk.going (λ not. cc (step.work.ended not))) desk.faults
end_cause given answers.Made outs d e desk step same =
    step.cause ∙ open_same d.receiver.buffer.phase given.faults d.faults (made_open d.receiver.buffer.phase desk.going (λ not. cc (step.work.ended not))) desk.faults
end_cause given answers.Nothing outs d e desk step same =
    step.cause ∙ open_same d.receiver.buffer.phase given.faults d.faults (made_open d.receiver.buffer.phase desk.going (λ not. cc (step.work.ended not))) desk.faults

pub stands_ended : (given : Given) (answer : Answer) (outs : Outs) (r s : ReceiverState) (c e : Option (List ℕ)) (f n : ℕ) (history : List Step)
    → Stepped end_told (outcome_with answer outs) (kept_with r c f history) (kept_with s e n (with_end history answer outs))
    → (answer ≡ answers.Stopped → Same r s c e f n) → IsDesk given (kept_with r c f history)
    → StandsFor given (kept_with s e n (with_end history answer outs)) (with_end history answer outs)
stands_ended given answer outs r s c e f n history step same old =
    let o = outcome_with answer outs in
    let d = kept_with r c f history in
    let x = kept_with s e n (with_end history answer outs) in
    subst (StandsFor given x) (reverse-reverse (with_end history answer outs))
    (stands_told given end_told o d x old.settings step (λ is. same (answer_stopped answer outs is)) (kept_more (step_after end_told o) history) old.stands (reverse (with_end history answer outs)) refl)
