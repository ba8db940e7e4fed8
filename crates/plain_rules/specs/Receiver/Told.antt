-- What the plain programs are told, as a history.
use Rattle.std.specs.Prelude.{◌<◌, ◌^◌, List, map, reverse}
use Rattle.std.specs.Borrow.{Bor}
use Rattle.std.specs.Prelude.{ℕ}
use Rattle.seq_unwrap.specs.Nearest.{cycle_of}
use Rattle.plain_rules.specs.declared.receiver.steps.Event.{Event as ToldEvent}
use Rattle.plain_rules.specs.declared.receiver.steps.Event.TheVariants.{Media as ToldMedia, TimeOnly as ToldTimeOnly}
use Rattle.plain_rules.specs.declared.receiver.steps.Event.TheVariants.{End as ToldEnd}
use Rattle.plain_rules.specs.declared.receiver.steps.Step.{Step as ToldStep}
use Rattle.receiver_rules.specs.Steps.{Event, Media, TimeOnly, End, Step}
use Rattle.receiver_rules.specs.Seen.{seen}

-- what comes with a step, as the rules see it
abbrev pub event_of : ToldEvent → Event
event_of (ToldMedia arrival) = Media (seen arrival)
event_of ToldTimeOnly = TimeOnly
event_of ToldEnd = End

-- a step, as the rules see it
abbrev pub step_of : ToldStep → Step
step_of told = record { tick = told.tick; event = event_of told.event }

-- told oldest first, meant newest first
abbrev pub history_of : List ToldStep → List Step
history_of told = reverse (map step_of told)

-- a word is one of its width
abbrev pub IsFitEvent : ToldEvent → Type 0
IsFitEvent (ToldMedia arrival) = arrival.word < cycle_of arrival.width
IsFitEvent ToldTimeOnly = Unit {0}
IsFitEvent ToldEnd = Unit {0}

-- a tick from which no sum wraps, and a word of its width
abbrev pub IsFit : ToldStep → Type 0
IsFit told = (told.tick < 2 ^ 61) × IsFitEvent told.event

-- the octets of a borrowed payload
abbrev pub payload_of : Bor (List ℕ) → List ℕ
payload_of payload = payload.now
