-- What comes of a step that the buffer has made, for each history.
use Rattle.std.specs.Prelude.{◌≡◌, ℕ, List, ◌∷◌, Option, Result}
use Rattle.psk_seal.specs.declared.sealer.Spent as seal
use Rattle.receiver_rules.specs.declared.verdict.Verdict.{Verdict}
use Rattle.receiver_rules.specs.History.{epoch_number}
use Rattle.reorder_buffer.specs.State.{State}
use Rattle.reorder_buffer.specs.StateAfter.{IsStateAfter}
use Rattle.reorder_buffer.specs.declared.phase.Phase.TheVariants.{Open}
use Rattle.request_rules.specs.Steps.{Step, buffer_history}
use Rattle.rist_reporter.specs.Reporter.{ReporterState, IsReporterAfter, settings_with}
use Rattle.rist_reporter.specs.OneMore.{AnswersAfter, step_answered}
use Rattle.rist_reporter.specs.declared.out.Outs.{Outs}
use Rattle.rist_ends.specs.declared.outcome.Answer.{Answer}
use Rattle.rist_ends.specs.declared.told.Told.{Told}
use Rattle.rist_ends.specs.Outcome.{outcome_with, result_of}
use Rattle.rist_ends.specs.Told.{step_of}
use Rattle.rist_ends.specs.Inside.Stepping.{SaysVerdict}

-- the reporter stands before the step, and the buffer after it, with this verdict; before it this was the epoch's place
pub record IsBetween (r : ReporterState) (b : State) (told : Told) (verdict : Option Verdict) (place : ℕ)
    (history : List Step) : Type 0 where
  pub reporter : IsReporterAfter r b.limits history
  pub buffer : IsStateAfter b (buffer_history (step_of told ∷ history))
  pub says : SaysVerdict verdict b.limits (buffer_history history) (step_of told)
  pub place_is : place ≡ epoch_number b.limits (buffer_history history)

-- what an answer says was made, where the datagrams stand here
abbrev pub made_in : Answer → Outs → Result (Option Outs) seal.Spent
made_in answer outs = result_of (outcome_with answer outs)

-- what the step makes was made
abbrev pub ReportsStep : ReporterState → State → Told → Option Verdict → ℕ → Result (Option Outs) seal.Spent → Type 0
ReportsStep r b told verdict place made =
    (history : List Step) → IsBetween r b told verdict place history
    → AnswersAfter (settings_with b.limits r) r.shutter history (step_of told) made

-- the reporter stands after it
abbrev pub StandsAfterStep : ReporterState → ReporterState → State → Told → Option Verdict → ℕ
    → Result (Option Outs) seal.Spent → Type 0
StandsAfterStep old new b told verdict place made =
    (history : List Step) → IsBetween old b told verdict place history → b.phase ≡ Open
    → IsReporterAfter new b.limits (step_answered (step_of told) made ∷ history)
