-- What is told to all places in a turn, the row that it adds to the history, and what each place answers. Lists of rows
-- stand with the newest first.
use Rattle.std.specs.Prelude.{◌≡◌, ℕ, List, [], ◌∷◌, length, Bool, true, false, Option, None, Some}
use Rattle.std.specs.List.{list_all}
use Rattle.rist_ends.specs.declared.told.Told.{Told}
use Rattle.rist_ends.specs.declared.told.What.{What}
use Rattle.rist_ends.specs.declared.told.What.TheVariants as whats
use Rattle.rist_ends.specs.Told.{IsFit, IsNoEnd}
use Rattle.rist_ends.specs.declared.outcome.Answer.{Answer}
use Rattle.rist_ends.specs.declared.outcome.Answer.TheVariants as answers
use Rattle.rist_desk.specs.declared.step.Step.{Step}
use Rattle.rist_desk.specs.Desk.{Given}
use Rattle.turn_lock.specs.declared.rule.Turn.{Turn}
use Rattle.turn_lock.specs.History.{added}
use Rattle.rist_fan.specs.declared.fan.Fan.{Fan}
use Rattle.rist_fan.specs.declared.flow.Came.{Came}
use Rattle.rist_fan.specs.Seen.{FanStep, seen_in}
use Rattle.rist_fan.specs.Fan.{AllAnswer, AllFigures, FanStands, flows_in, step_come}
use Rattle.fan_desk.specs.declared.told.FanTold.{FanTold}

-- each receiver and its sink stand for what it saw of a history, by what is given of its place
abbrev pub StandAs : {K : Type 0} → (ℕ → Given) → (K → Option (List ℕ)) → (K → ℕ) → Fan K → List FanStep → Type 0
StandAs given contents faults fan history = FanStands given contents faults (flows_in fan) history

-- what may be told in a turn: anything but the end, with memory for what comes of it at each of so many places
abbrev pub MayBeTold : ℕ → FanTold → List Came → Type 0
MayBeTold places ask room = IsFit ask.told × IsNoEnd ask.told.what × (length room ≡ places)

-- a place had ended before the step: it made none
abbrev pub is_stopped : Answer → Bool
is_stopped answers.Stopped = true
is_stopped answers.WriteFault = false
is_stopped (answers.Verdict v) = false
is_stopped answers.Spent = false
is_stopped answers.Made = false
is_stopped answers.Nothing = false

-- so had each of these
abbrev pub are_all_stopped : List Came → Bool
are_all_stopped room = list_all (λ came. is_stopped came.answer) room

-- the row, or none
abbrev pub row_unless : Bool → FanStep → Option FanStep
row_unless true row = None
row_unless false row = Some row

-- the row that is added: one step of each place that has not ended, and no row where each had
abbrev pub row_added : FanTold → List Came → Unit {0} → Option FanStep
row_added ask room answer = row_unless (are_all_stopped room) (step_come ask.place ask.told room)

-- What each place answers after what it saw of a history: its step is legal there, its datagrams are those that the
-- rules make, and Stopped comes exactly where that place had ended.
pub record Answers (given : ℕ → Given) (before : List FanStep) (ask : FanTold) (was is : List Came)
    (answer : Unit {0}) : Type 0 where
  pub each : AllAnswer given before ask.place ask.told was is
  pub places : length is ≡ length was

-- so, and the figures of each place are those of what it saw of the history with the row
pub record AnswersFigured (given : ℕ → Given) (before : List FanStep) (ask : FanTold) (was is : List Came)
    (answer : Unit {0}) : Type 0 where
  pub rows : Answers given before ask was is answer
  pub figures : AllFigures given (added (row_added ask is answer) before) is

-- ---- each place by itself

-- something came, or what came was refused: neither a tick nor the end
abbrev pub IsDatagram : What → Type 0
IsDatagram (whats.Media arrival) = Unit {0}
IsDatagram (whats.Control compound) = Unit {0}
IsDatagram whats.Keepalive = Unit {0}
IsDatagram whats.Refused = Unit {0}
IsDatagram whats.Tick = ⊥
IsDatagram whats.End = ⊥

-- two datagrams of one link at one moment
pub record AreBeside (told instead : Told) : Type 0 where
  pub link : instead.link ≡ told.link
  pub us : instead.us ≡ told.us
  pub one : IsDatagram told.what
  pub other : IsDatagram instead.what

-- what a place saw of what a turn added
abbrev pub entry_at : ℕ → Option FanStep → Option Step
entry_at v None = None
entry_at v (Some row) = seen_in v row

-- the turns as a place saw them
abbrev pub turns_at : ℕ → List (Turn FanStep) → List (Turn Step)
turns_at v [] = []
turns_at v (t ∷ turns) = record { pass = t.pass; entry = entry_at v t.entry } ∷ turns_at v turns

-- a row of one place
abbrev pub row_of : Step → FanStep
row_of s = record { steps = Some s ∷ [] }
