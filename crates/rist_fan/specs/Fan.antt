-- Receivers that stand for one history of steps of all.
use Rattle.std.specs.Prelude.{◌≡◌, ◌≢◌, ℕ, List, [], ◌∷◌, map, slice_get, Option, Some, None}
use Rattle.outside_io.specs.Causes.{RoseWhere}
use Rattle.rist_ends.specs.declared.told.Told.{Told}
use Rattle.rist_ends.specs.declared.outcome.Answer.{Answer}
use Rattle.rist_ends.specs.declared.outcome.Answer.TheVariants as answers
use Rattle.rist_ends.specs.declared.outcome.Outcome.{Outcome}
use Rattle.rist_ends.specs.Outcome.{outcome_with, is_write_fault}
use Rattle.rist_ends.specs.Receiver.{Steps, settings_of}
use Rattle.rist_ends.specs.Figures.{figures_of}
use Rattle.rist_desk.specs.declared.step.Step.{Step}
use Rattle.rist_desk.specs.Made.{end_told}
use Rattle.rist_desk.specs.Desk.{AreFiguresAfter, Given, IsNew, StandsFor, is_cut_off}
use Rattle.turn_desk.specs.Stands.{Answers, Stands, kept_with}
use Rattle.rist_fan.specs.declared.fan.Fan.{Fan}
use Rattle.rist_fan.specs.declared.flow.Flow.{Flow}
use Rattle.rist_fan.specs.declared.flow.Came.{Came}
use Rattle.rist_fan.specs.Seen.{FanStep, fan_step, is_for, seen, told_for}

-- the flows of a fan, in the order of their places
abbrev pub flows_in : {K : Type 0} → Fan K → List (Flow K)
flows_in fan = fan.first ∷ fan.more.items

-- ---- what each stands for

-- each receiver was told nothing, and is with its sink as what is given of its place says
abbrev pub AreNew : {K : Type 0} → (ℕ → Given) → (K → Option (List ℕ)) → (K → ℕ) → List (Flow K) → Type 0
AreNew {K} given contents faults flows =
    (v : ℕ) (flow : Flow K) → slice_get flows v ≡ Some flow
    → IsNew (given v) (kept_with flow.receiver (contents flow.sink) (faults flow.sink) [])

-- each receiver and its sink stand for what it sees of a history, by what is given of its place
abbrev pub FanStands : {K : Type 0} → (ℕ → Given) → (K → Option (List ℕ)) → (K → ℕ) → List (Flow K) → List FanStep
    → Type 0
FanStands {K} given contents faults flows history =
    (v : ℕ) (flow : Flow K) → slice_get flows v ≡ Some flow
    → Stands (given v) contents faults flow.receiver flow.sink (seen v history)

-- ---- a step of all

-- what a step came to at one receiver
abbrev pub outcome_in : Came → Outcome
outcome_in came = outcome_with came.answer came.outs

-- what was made of what is told for one receiver or for none
abbrev pub step_come : Option ℕ → Told → List Came → FanStep
step_come place told came = fan_step place told (map outcome_in came)

-- One receiver made one step of what is told. What became of its own sink is all that its answer says of a failed
-- write.
pub record StepsFlow {K : Type 0} (contents : K → Option (List ℕ)) (faults : K → ℕ) (told : Told) (old new : Flow K)
    (was is : Came) : Type 0 where
  pub work : Steps old.receiver new.receiver told (outcome_in is) (contents old.sink) (contents new.sink)
  pub cause : RoseWhere (is_write_fault (outcome_in is)) (faults old.sink) (faults new.sink)
  pub same : is.answer ≡ answers.Stopped → (new.receiver ≡ old.receiver) × (new.sink ≡ old.sink)
  pub outs : is.answer ≢ answers.Made → is.outs ≡ was.outs
  pub figures : is.figures ≡ figures_of new.receiver

-- each receiver made its step of what is told for one of them or for none
abbrev pub AllStep : {K : Type 0} → (K → Option (List ℕ)) → (K → ℕ) → Option ℕ → Told → List (Flow K) → List (Flow K)
    → List Came → List Came → Type 0
AllStep {K} contents faults place told old new was is =
    (v : ℕ) (flow next : Flow K) (had came : Came)
    → slice_get old v ≡ Some flow → slice_get new v ≡ Some next → slice_get was v ≡ Some had
    → slice_get is v ≡ Some came
    → StepsFlow contents faults (told_for (is_for place v) told) flow next had came

-- each step is legal after what its receiver saw of a history, and its datagrams are those that the rules make
abbrev pub AllAnswer : (ℕ → Given) → List FanStep → Option ℕ → Told → List Came → List Came → Type 0
AllAnswer given history place told was is =
    (v : ℕ) (had came : Came) → slice_get was v ≡ Some had → slice_get is v ≡ Some came
    → Answers (given v) (seen v history) (told_for (is_for place v) told) had.outs came.outs came.answer

-- the figures of each are those of what its receiver saw of a history
abbrev pub AllFigures : (ℕ → Given) → List FanStep → List Came → Type 0
AllFigures given history is =
    (v : ℕ) (came : Came) → slice_get is v ≡ Some came → AreFiguresAfter (given v) (seen v history) came.figures

-- ---- the end

-- One receiver was told the end: with its sink it stands for these steps, and a write failed in the end or before it
-- exactly where its own sink's count rose.
pub record HasEnded {K : Type 0} (given : Given) (contents : K → Option (List ℕ)) (faults : K → ℕ) (flow : Flow K)
    (answer : Answer) (steps : List Step) : Type 0 where
  pub stands : StandsFor given (kept_with flow.receiver (contents flow.sink) (faults flow.sink) steps) steps
  pub settings : settings_of flow.receiver ≡ given.settings
  pub cause : RoseWhere (is_cut_off answer) given.faults (faults flow.sink)

-- each receiver was told the end after a history, and this is what came of it
abbrev pub FanEnded : {K : Type 0} → (ℕ → Given) → (K → Option (List ℕ)) → (K → ℕ) → List (Flow K) → List FanStep
    → List Came → Type 0
FanEnded {K} given contents faults flows history is =
    (v : ℕ) (flow : Flow K) (came : Came) → slice_get flows v ≡ Some flow → slice_get is v ≡ Some came
    → HasEnded (given v) contents faults flow came.answer (seen v (step_come None end_told is ∷ history))
