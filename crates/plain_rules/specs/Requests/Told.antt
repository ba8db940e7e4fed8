-- What the plain program is told, as a history.
use Rattle.std.specs.Prelude.{◌<◌, ◌≤◌, ◌^◌, ℕ, List, map, reverse, Option, None, Some}
use Rattle.seq_unwrap.specs.Nearest.{cycle_of}
use Rattle.receiver_rules.specs.Seen.{seen}
use Rattle.request_rules.specs.declared.policy.Policy.{Policy}
use Rattle.request_rules.specs.Steps.{Input, Media, Control, Keepalive, Tick, End, Step}
use Rattle.plain_rules.specs.declared.requests.steps.Input.{Input as ToldInput}
use Rattle.plain_rules.specs.declared.requests.steps.Input.TheVariants.{Media as ToldMedia, Control as ToldControl}
use Rattle.plain_rules.specs.declared.requests.steps.Input.TheVariants.{Other as ToldOther, Tick as ToldTick}
use Rattle.plain_rules.specs.declared.requests.steps.Input.TheVariants.{End as ToldEnd}
use Rattle.plain_rules.specs.declared.requests.steps.Step.{Step as ToldStep}

-- what comes with a step, as the rules see it
abbrev pub input_of : ToldInput → Input
input_of (ToldMedia arrival) = Media (seen arrival)
input_of (ToldControl sample) = Control sample None
input_of ToldOther = Keepalive
input_of ToldTick = Tick 0
input_of ToldEnd = End

-- a step, as the rules see it
abbrev pub step_of : ToldStep → Step
step_of told = record { link = told.link; tick = told.tick; input = input_of told.input }

-- told oldest first, meant newest first
abbrev pub history_of : List ToldStep → List Step
history_of told = reverse (map step_of told)

-- a sample of at most ten seconds
abbrev pub IsFitSample : Option ℕ → Type 0
IsFitSample None = Unit {0}
IsFitSample (Some sample) = sample ≤ 10000000

-- a word is one of its width, and a sample one that isn't stale
abbrev pub IsFitInput : ToldInput → Type 0
IsFitInput (ToldMedia arrival) = arrival.word < cycle_of arrival.width
IsFitInput (ToldControl sample) = IsFitSample sample
IsFitInput ToldOther = Unit {0}
IsFitInput ToldTick = Unit {0}
IsFitInput ToldEnd = Unit {0}

-- a tick from which no sum wraps
abbrev pub IsFit : ToldStep → Type 0
IsFit told = (told.tick < 2 ^ 61) × IsFitInput told.input

-- times from which no sum wraps
pub record IsSmallPolicy (policy : Policy) : Type 0 where
  pub reorder_tolerance : policy.reorder_tolerance < 2 ^ 61
  pub retry_interval : policy.retry_interval < 2 ^ 61
