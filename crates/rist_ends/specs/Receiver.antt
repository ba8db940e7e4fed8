-- What a contract sees of a receiver.
use Rattle.std.specs.Prelude.{◌≡◌, ◌≢◌, ℕ, ◌≤◌, ◌^◌, ◌<◌, List, [], ◌∷◌, Option, option_map}
use Rattle.receiver_rules.specs.Epochs.{epochs_of}
use Rattle.receiver_rules.specs.History.{released_bytes}
use Rattle.outside_io.specs.Told.{Writes, WritesPart}
use Rattle.reorder_buffer.specs.State.{State}
use Rattle.reorder_buffer.specs.StateAfter.{IsStateAfter}
use Rattle.reorder_buffer.specs.declared.phase.Phase.TheVariants.{Open, Failed}
use Rattle.request_rules.specs.Steps.{Step, buffer_history}
use Rattle.rist_reporter.specs.Control.{ControlSettings}
use Rattle.rist_reporter.specs.Reporter.{ReporterState, IsReporterAfter, settings_with}
use Rattle.rist_reporter.specs.OneMore.{AnswersAfter, TakesPairs, answer_count, step_answered}
use Rattle.rist_reporter.specs.Asking.{asked_count}
use Rattle.rist_ends.specs.declared.counts.Counts.{Counts}
use Rattle.rist_ends.specs.declared.numbers.Numbers.{Numbers}
use Rattle.rist_ends.specs.declared.outcome.Outcome.{Outcome}
use Rattle.rist_ends.specs.declared.told.Told.{Told}
use Rattle.rist_ends.specs.Counts.{AreCountsOf, capped, recovered_count}
use Rattle.rist_ends.specs.Numbers.{AreNumbersOf}
use Rattle.rist_ends.specs.declared.outcome.Outcome.TheVariants.{Stopped, WriteFault}
use Rattle.rist_ends.specs.Outcome.{IfStepped, HasVerdict, verdict_in, result_of}
use Rattle.rist_ends.specs.Told.{step_of, ended_at}

-- its buffer, how many arrivals had each verdict, how many that had been sent again were kept, how many numbers were
-- asked for, what is kept of the packets' numbers, and what sends datagrams back
pub record ReceiverState : Type 0 where
  pub buffer : State
  pub counts : Counts
  pub recovered : ℕ
  pub asked : ℕ
  pub numbers : Numbers
  pub reporter : ReporterState

-- what it is set to, in ticks
abbrev pub settings_of : ReceiverState → ControlSettings
settings_of r = settings_with r.buffer.limits r.reporter

-- what it counts, and what it keeps of the packets' numbers, is that of these steps
pub record IsCountedOver (r : ReceiverState) (history : List Step) : Type 0 where
  pub counts : AreCountsOf r.counts r.buffer.limits history
  pub again : r.recovered ≡ capped (recovered_count r.buffer.limits history)
  pub asked : r.asked ≡ capped (asked_count (settings_of r) history)
  pub numbers : AreNumbersOf r.numbers (epochs_of r.buffer.limits (buffer_history history))

-- the steps before the newest one
abbrev pub steps_before : List Step → List Step
steps_before [] = []
steps_before (step ∷ before) = before

-- what it keeps is that of the history of its steps, the newest first. After a failed write it has ended: what it counts
-- is that of the steps before the one in which the write failed, and nothing else is said
pub record IsReceiverAfter (r : ReceiverState) (history : List Step) : Type 0 where
  pub buffer : IsStateAfter r.buffer (buffer_history history)
  pub counted : r.buffer.phase ≢ Failed → IsCountedOver r history
  pub stayed : r.buffer.phase ≡ Failed → IsCountedOver r (steps_before history)
  pub reporter : r.buffer.phase ≡ Open → IsReporterAfter r.reporter r.buffer.limits history

-- what holds of each receiver: its time is its buffer's, after a failed write nothing waits, and its reporter knows its
-- buffer's span and highest number
pub record IsInStep (r : ReceiverState) (now : ℕ) : Type 0 where
  pub time : r.buffer.phase ≡ Open → r.buffer.time ≡ now
  pub tick : now < 2 ^ 61
  pub delay : 1 ≤ r.buffer.limits.playout_delay
  pub span : r.buffer.limits.capacity ≡ r.reporter.timer.span
  pub dropped : r.buffer.phase ≡ Failed → r.buffer.held ≡ []
  pub told : r.buffer.phase ≡ Open → option_map (λ h. h.number) r.buffer.highest ≡ r.reporter.timer.high

-- ---- one more step, for each history that the receiver stands for

-- a media packet has the verdict of the history, and nothing else has one
abbrev pub AnswersStep : ReceiverState → Step → Outcome → Type 0
AnswersStep r step outcome =
    (history : List Step) → IsReceiverAfter r history
    → HasVerdict (verdict_in outcome) r.buffer.limits history step.tick step.input

-- the datagrams that the history makes by the step were made, opened in the session, or too few pairs are left for them
abbrev pub MakesStep : ReceiverState → Step → Outcome → Type 0
MakesStep r step outcome =
    (history : List Step) → IsReceiverAfter r history
    → AnswersAfter (settings_of r) r.reporter.shutter history step (result_of outcome)

-- the step that was made: where too few pairs were left, a keepalive that came
abbrev pub step_made : Told → Outcome → Step
step_made told outcome = step_answered (step_of told) (result_of outcome)

-- the new receiver stands for the history with the step
abbrev pub GoesOn : ReceiverState → ReceiverState → Step → Type 0
GoesOn old new step = (history : List Step) → IsReceiverAfter old history → IsReceiverAfter new (step ∷ history)

-- the sink has gained what the step plays out
abbrev pub Plays : ReceiverState → Step → Option (List ℕ) → Option (List ℕ) → Type 0
Plays r step old new =
    (history : List Step) → IsReceiverAfter r history
    → Writes old new (released_bytes r.buffer.limits (buffer_history history))
    (released_bytes r.buffer.limits (buffer_history (step ∷ history)))

-- it has gained a front part of that
abbrev pub PlaysPart : ReceiverState → Step → Option (List ℕ) → Option (List ℕ) → Type 0
PlaysPart r step old new =
    (history : List Step) → IsReceiverAfter r history
    → WritesPart old new (released_bytes r.buffer.limits (buffer_history history))
    (released_bytes r.buffer.limits (buffer_history (step ∷ history)))

-- after a failed write nothing waits
pub record HasFailed (b : State) : Type 0 where
  pub phase : b.phase ≡ Failed
  pub dropped : b.held ≡ []

-- nothing more was counted
pub record StaysCounted (old new : ReceiverState) : Type 0 where
  pub counts : new.counts ≡ old.counts
  pub again : new.recovered ≡ old.recovered
  pub asked : new.asked ≡ old.asked
  pub numbers : new.numbers ≡ old.numbers

-- what a step comes to: the receiver, and what its sink told that it holds, before the step and after it
pub record Steps (old new : ReceiverState) (told : Told) (outcome : Outcome)
    (before after : Option (List ℕ)) : Type 0 where
  -- Stopped exactly where it has ended
  pub stopped : outcome ≡ Stopped → old.buffer.phase ≢ Open
  pub ended : old.buffer.phase ≢ Open → outcome ≡ Stopped
  -- a media packet has the verdict of the history, and nothing else has one
  pub verdict : IfStepped outcome (AnswersStep old (step_of told) outcome)
  -- the datagrams that the history makes were made; Spent exactly where fewer pairs are left than they take
  pub made : IfStepped outcome (MakesStep old (step_of told) outcome)
  pub pairs : TakesPairs (answer_count (result_of outcome)) old.reporter.shutter new.reporter.shutter
  -- a step that was made is one more of the history, and the sink has gained what it releases
  pub state : IfStepped outcome (GoesOn old new (step_made told outcome))
  pub sink : IfStepped outcome (Plays old (step_of told) before after)
  pub phase : IfStepped outcome (new.buffer.phase ≡ ended_at told)
  pub settings : settings_of new ≡ settings_of old
  -- after a failed write it has ended, the step isn't counted, and the sink has gained a front part
  pub failed : outcome ≡ WriteFault → HasFailed new.buffer
  pub stays : outcome ≡ WriteFault → StaysCounted old new
  pub part : outcome ≡ WriteFault → PlaysPart old (step_of told) before after
