-- What a record of a capture brings to a receiver: the item of its datagram in a session.
use Rattle.std.specs.Prelude.{List, map, reverse}
use Rattle.capture_file.specs.Capture.{Record}
use Rattle.rist_wire.specs.declared.session.Session.{Session}
use Rattle.rist_wire.specs.Item.{item_of}
use Rattle.receiver_rules.specs.Steps.{Step, tick_of}
use Rattle.request_rules.specs.Steps.{Step as ReceiverStep, buffer_history}
use Rattle.rist_ends.specs.Items.{input_read}

-- a record as a step of the receiver, at the record's own time
abbrev pub step_of : Session → Record → ReceiverStep
step_of session r =
    record { link = r.link; tick = tick_of r.us; input = input_read r.us (item_of session r.channel r.octets) }

-- the records of a capture, oldest first, as a history of the receiver, newest first
abbrev pub receiver_history : Session → List Record → List ReceiverStep
receiver_history session rs = reverse (map (step_of session) rs)

-- and as a history of its buffer
abbrev pub history_of : Session → List Record → List Step
history_of session rs = buffer_history (receiver_history session rs)
