-- What one step does to the buffer, and what it tells the reporter.
use Rattle.std.specs.Prelude.{◌≡◌, ◌≢◌, IsSome, ◌<◌, ◌^◌, ℕ, List, Option, None, Some, true, is_some}
use Rattle.receiver_rules.specs.declared.limits.Limits.{Limits}
use Rattle.receiver_rules.specs.declared.verdict.Verdict.{Verdict}
use Rattle.receiver_rules.specs.Steps.{Step}
use Rattle.receiver_rules.specs.History.{verdict}
use Rattle.reorder_buffer.specs.State.{State, IsNoLower}
use Rattle.reorder_buffer.specs.declared.phase.Phase.{Phase}
use Rattle.reorder_buffer.specs.declared.phase.Phase.TheVariants.{Open}
use Rattle.request_rules.specs.Steps.{Input, Media, Control, Keepalive, Refused, Tick, End, Step as ReceiverStep}
use Rattle.rist_reporter.specs.Inside.Due.{IsNoLowerNumber}
use Rattle.rist_ends.specs.declared.told.What.{What}
use Rattle.rist_ends.specs.declared.told.What.TheVariants as whats

-- the buffer is in this phase, and where it goes on it stands at this effective time
pub record IsMoved (old new : State) (at : ℕ) (then : Phase) : Type 0 where
  pub phase : new.phase ≡ then
  pub time : then ≡ Open → new.time ≡ at
  pub tick : at < 2 ^ 61

-- a media packet has the verdict of the history, and nothing else has one
abbrev pub SaysVerdictOn : Option Verdict → Limits → List Step → ℕ → Input → Type 0
SaysVerdictOn v limits history tick (Media arrival) = v ≡ Some (verdict limits history tick arrival)
SaysVerdictOn v limits history tick (Control sample request) = v ≡ None
SaysVerdictOn v limits history tick Keepalive = v ≡ None
SaysVerdictOn v limits history tick Refused = v ≡ None
SaysVerdictOn v limits history tick (Tick micros) = v ≡ None
SaysVerdictOn v limits history tick End = v ≡ None

-- likewise of a step
abbrev pub SaysVerdict : Option Verdict → Limits → List Step → ReceiverStep → Type 0
SaysVerdict v limits history step = SaysVerdictOn v limits history step.tick step.input

-- whatever the history, exactly a media packet has a verdict
abbrev pub IsJudged : What → Option Verdict → Type 0
IsJudged (whats.Media arrival) v = is_some v ≡ true
IsJudged (whats.Control compound) v = v ≡ None
IsJudged whats.Keepalive v = v ≡ None
IsJudged whats.Refused v = v ≡ None
IsJudged whats.Tick v = v ≡ None
IsJudged whats.End v = v ≡ None

-- and a media packet alone may raise the highest number, or open an epoch, in which it is known
abbrev pub IsHigh : What → State → State → Type 0
IsHigh (whats.Media arrival) old new =
    (new.epoch ≡ old.epoch → IsNoLower old.highest new.highest) × (new.epoch ≢ old.epoch → IsSome new.highest)
IsHigh (whats.Control compound) old new = new.highest ≡ old.highest
IsHigh whats.Keepalive old new = new.highest ≡ old.highest
IsHigh whats.Refused old new = new.highest ≡ old.highest
IsHigh whats.Tick old new = new.highest ≡ old.highest
IsHigh whats.End old new = Unit {0}

-- likewise of the number alone, from an epoch's place to another
abbrev pub IsHighNumber : What → ℕ → ℕ → Option ℕ → Option ℕ → Type 0
IsHighNumber (whats.Media arrival) place now old new =
    (now ≡ place → IsNoLowerNumber old new) × (now ≢ place → IsSome new)
IsHighNumber (whats.Control compound) place now old new = new ≡ old
IsHighNumber whats.Keepalive place now old new = new ≡ old
IsHighNumber whats.Refused place now old new = new ≡ old
IsHighNumber whats.Tick place now old new = new ≡ old
IsHighNumber whats.End place now old new = Unit {0}

-- a tick or a compound, which alone may be answered Spent
abbrev pub IsQuiet : What → Type 0
IsQuiet (whats.Media arrival) = ⊥
IsQuiet (whats.Control compound) = Unit {0}
IsQuiet whats.Keepalive = ⊥
IsQuiet whats.Refused = ⊥
IsQuiet whats.Tick = Unit {0}
IsQuiet whats.End = ⊥
