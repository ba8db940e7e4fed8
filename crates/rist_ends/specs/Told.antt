-- What a receiver is told, as a step of its history.
use Rattle.std.specs.Prelude.{ℕ, ◌<◌, ◌≤◌, length}
use Rattle.link_channels.specs.declared.bounds.TheConstants.{MAX_LINKS}
use Rattle.seq_unwrap.specs.Nearest.{cycle_of}
use Rattle.receiver_rules.specs.Steps.{Step, Event, tick_of}
use Rattle.receiver_rules.specs.Steps as buffer
use Rattle.receiver_rules.specs.Seen.{seen}
use Rattle.receiver_rules.specs.declared.arrival.Arrival.{Arrival}
use Rattle.link_channels.specs.declared.bounds.TheConstants.{MAX_PAYLOAD}
use Rattle.receiver_rules.specs.ReceiverSteps as receiver
use Rattle.request_rules.specs.Steps.{Input, Step as ReceiverStep, control_input, receiver_input}
use Rattle.request_rules.specs.Steps as inputs
use Rattle.reorder_buffer.specs.declared.phase.Phase.{Phase}
use Rattle.reorder_buffer.specs.declared.phase.Phase.TheVariants.{Open, Ended}
use Rattle.rist_ends.specs.declared.told.Told.{Told}
use Rattle.rist_ends.specs.declared.told.What.{What}
use Rattle.rist_ends.specs.declared.told.What.TheVariants.{Media, Control, Keepalive, Refused, Tick, End}

-- what comes with a step at a moment in microseconds, as the rules see it
abbrev pub input_of : ℕ → What → Input
input_of us (Media arrival) = inputs.Media (seen arrival)
input_of us (Control compound) = control_input us compound.now
input_of us Keepalive = inputs.Keepalive
input_of us Refused = inputs.Refused
input_of us Tick = inputs.Tick us
input_of us End = inputs.End

-- what is told as a step of a history: its moment in whole ticks
abbrev pub step_of : Told → ReceiverStep
step_of told = record { link = told.link; tick = tick_of told.us; input = input_of told.us told.what }

-- a word is one of its width, and a payload has no more octets than a block
pub record IsFitArrival (arrival : Arrival) : Type 0 where
  pub word : arrival.word < cycle_of arrival.width
  pub payload : length arrival.payload.now ≤ MAX_PAYLOAD

-- what is told is of its form
abbrev pub IsFitWhat : What → Type 0
IsFitWhat (Media arrival) = IsFitArrival arrival
IsFitWhat (Control compound) = Unit {0}
IsFitWhat Keepalive = Unit {0}
IsFitWhat Refused = Unit {0}
IsFitWhat Tick = Unit {0}
IsFitWhat End = Unit {0}

-- it is not the end
abbrev pub IsNoEnd : What → Type 0
IsNoEnd (Media arrival) = Unit {0}
IsNoEnd (Control compound) = Unit {0}
IsNoEnd Keepalive = Unit {0}
IsNoEnd Refused = Unit {0}
IsNoEnd Tick = Unit {0}
IsNoEnd End = ⊥

-- there are at most sixteen links
pub record IsFit (told : Told) : Type 0 where
  pub link : told.link < MAX_LINKS
  pub word : IsFitWhat told.what

-- an end ends the receiver, and nothing else does
abbrev pub phase_after : What → Phase
phase_after (Media arrival) = Open
phase_after (Control compound) = Open
phase_after Keepalive = Open
phase_after Refused = Open
phase_after Tick = Open
phase_after End = Ended

-- the phase after what is told
abbrev pub ended_at : Told → Phase
ended_at told = phase_after told.what

-- the end of the stream, as the buffer sees it
abbrev pub end_at : ℕ → Step
end_at tick = record { tick = tick; event = buffer.End }

-- what comes with a step, as the buffer sees it
abbrev pub event_of : Input → Event
event_of input = receiver.buffer_event (receiver_input input)

-- a step, as the buffer sees it
abbrev pub buffer_step : ReceiverStep → Step
buffer_step step = record { tick = step.tick; event = event_of step.input }
