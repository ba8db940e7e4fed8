-- What a whole receiver is told: the item of a datagram, a tick of its own clock, or the end, on one of its links.
-- Only media packets concern the buffer; each other step moves its time alone.
use Rattle.std.specs.Prelude.{ℕ, List, map}
use Rattle.receiver_rules.specs.Steps.{Arrival, Event, Step}
use Rattle.receiver_rules.specs.Steps as buffer

-- what comes with a step: a media packet, an RTCP compound (RFC 3550, section 6.1), a keepalive, a datagram that was
-- refused, a tick of the receiver's own clock, or the end of the stream
pub data Input : Type 0 where
  Media : Arrival → Input
  Control : Input
  Keepalive : Input
  Refused : Input
  Tick : Input
  End : Input

-- a step: the link that it came on, from 0, and the tick of its moment
pub record ReceiverStep : Type 0 where
  pub link : ℕ
  pub tick : ℕ
  pub input : Input

-- what comes with a step, as the buffer sees it
abbrev pub buffer_event : Input → Event
buffer_event (Media arrival) = buffer.Media arrival
buffer_event Control = buffer.TimeOnly
buffer_event Keepalive = buffer.TimeOnly
buffer_event Refused = buffer.TimeOnly
buffer_event Tick = buffer.TimeOnly
buffer_event End = buffer.End

-- a receiver's step, as its buffer sees it
abbrev pub buffer_step : ReceiverStep → Step
buffer_step step = record { tick = step.tick; event = buffer_event step.input }

-- a receiver's history, as its buffer sees it: the links are merged in the order in which the steps were made
abbrev pub buffer_history : List ReceiverStep → List Step
buffer_history steps = map buffer_step steps
