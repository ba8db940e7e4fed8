-- A receiver and its sink that stand for a list of steps, the newest first.
use Rattle.std.specs.Prelude.{◌≡◌, ◌≢◌, ℕ, List, reverse, true, Option, None, Some}
use Rattle.outside_io.specs.Causes.{RoseWhere}
use Rattle.reorder_buffer.specs.declared.phase.Phase.TheVariants.{Open}
use Rattle.rist_reporter.specs.declared.out.Outs.{Outs}
use Rattle.rist_ends.specs.declared.told.Told.{Told}
use Rattle.rist_ends.specs.Told.{IsFit, IsNoEnd}
use Rattle.rist_ends.specs.declared.outcome.Answer.{Answer}
use Rattle.rist_ends.specs.declared.outcome.Answer.TheVariants as answers
use Rattle.rist_ends.specs.Outcome.{outcome_with}
use Rattle.rist_ends.specs.Receiver.{ReceiverState, settings_of}
use Rattle.rist_desk.specs.declared.step.Step.{Step}
use Rattle.rist_desk.specs.Legal.{phase_of}
use Rattle.rist_desk.specs.Made.{end_told, step_after}
use Rattle.rist_desk.specs.Desk.{AreFiguresAfter, DeskState, Given, IsDesk, StandsFor, MakesDue, IsDueAfter, is_cut_off}
use Rattle.rist_desk.specs.Desk.{state_of}
use Rattle.rist_desk.specs.declared.figured.Figured.{Figured}
use Rattle.turn_lock.specs.History.{added}
use Rattle.turn_desk.specs.declared.parts.Parts.{Parts}

-- as at a desk whose trace kept each of these steps and is never full
abbrev pub kept_with : ReceiverState → Option (List ℕ) → ℕ → List Step → DeskState
kept_with receiver contents faults steps = state_of receiver (Some (reverse steps)) None contents faults

-- what holds of such a desk holds of them: the steps are legal, the receiver is that of their history, and the sink,
-- where it tells, holds what they release
abbrev pub Stands : {K : Type 0} → Given → (K → Option (List ℕ)) → (K → ℕ) → ReceiverState → K → List Step → Type 0
Stands given contents faults receiver sink steps = IsDesk given (kept_with receiver (contents sink) (faults sink) steps)

-- so of both together
abbrev pub StandAs : {K : Type 0} → Given → (K → Option (List ℕ)) → (K → ℕ) → Parts K → List Step → Type 0
StandAs given contents faults parts steps = Stands given contents faults parts.receiver parts.sink steps

-- what may be told in a turn: anything but the end
abbrev pub MayBeTold : Told → Type 0
MayBeTold told = IsFit told × IsNoEnd told.what

-- the step that is added
abbrev pub step_added : Told → Outs → Answer → Option Step
step_added told outs answer = step_after told (outcome_with answer outs)

-- what a step answers after these steps: it is legal there, and its datagrams are those that the rules make
pub record Answers (given : Given) (before : List Step) (told : Told) (was is : Outs) (answer : Answer) : Type 0 where
  pub tells : given.tells_steps ≡ true
  pub due : IsDueAfter given before told (outcome_with answer is)
  pub opened : answer ≡ answers.Made → MakesDue given before told is
  pub outs : answer ≢ answers.Made → is ≡ was
  pub stopped : answer ≡ answers.Stopped → phase_of before ≢ Open
  pub ended : phase_of before ≢ Open → answer ≡ answers.Stopped

-- the step that is added where figures are told with it
abbrev pub figured_added : Told → Outs → Figured → Option Step
figured_added told outs figured = step_added told outs figured.answer

-- what such a step answers after these steps: the figures are those of the receiver after it
pub record AnswersFigured (given : Given) (before : List Step) (told : Told) (was is : Outs) (figured : Figured)
    : Type 0 where
  pub answers : Answers given before told was is figured.answer
  pub figures : AreFiguresAfter given (added (figured_added told is figured) before) figured.figures

-- these steps and the end, as far as it was made
abbrev pub with_end : List Step → Answer → Outs → List Step
with_end history answer outs = added (step_after end_told (outcome_with answer outs)) history

-- The end was told to what stood for these steps: what is left stands for them and the end, and a write failed in it or
-- before it exactly where the sink's count rose.
pub record IsEnded {K : Type 0} (given : Given) (contents : K → Option (List ℕ)) (faults : K → ℕ) (history : List Step)
    (answer : Answer) (outs : Outs) (parts : Parts K) : Type 0 where
  pub stands : StandsFor given
      (kept_with parts.receiver (contents parts.sink) (faults parts.sink) (with_end history answer outs))
      (with_end history answer outs)
  pub settings : settings_of parts.receiver ≡ given.settings
  pub cause : RoseWhere (is_cut_off answer) given.faults (faults parts.sink)
