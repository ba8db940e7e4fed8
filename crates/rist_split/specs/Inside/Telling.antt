-- What the receiver at a place is told of the records of a capture.
use Rattle.std.specs.Prelude.{ℕ, ◌==◌, if◌then◌else◌, List, map, reverse, Option, None, Some, Result, Ok, Err}
use Rattle.capture_file.specs.Capture.{Record}
use Rattle.receiver_rules.specs.Steps.{tick_of}
use Rattle.request_rules.specs.Steps.{Input, Refused, Step as ReceiverStep}
use Rattle.rist_wire.specs.declared.session.Session.{Session}
use Rattle.rist_wire.specs.declared.bad.WireBad.{WireBad}
use Rattle.rist_wire.specs.declared.item.Item.{Item}
use Rattle.rist_wire.specs.Among.{item_among}
use Rattle.rist_ends.specs.Items.{input_read}

-- the place of what was found, if anything was
abbrev pub place_found : Result (ℕ × Item) WireBad → Option ℕ
place_found (Ok found) = Some found.0
place_found (Err bad) = None

-- and the item, or why there is none
abbrev pub item_found : Result (ℕ × Item) WireBad → Result Item WireBad
item_found (Ok found) = Ok found.1
item_found (Err bad) = Err bad

-- what the receiver at a place is told of what was found at a moment in microseconds: its own item, and of all else
-- that a datagram was refused
abbrev pub input_at : ℕ → ℕ → Result (ℕ × Item) WireBad → Input
input_at v us (Ok found) = if found.0 == v then input_read us (Ok found.1) else Refused
input_at v us (Err bad) = Refused

-- a record as a step of that receiver
abbrev pub step_at : List ℕ → Session → ℕ → Record → ReceiverStep
step_at ports session v r =
    record { link = r.link; tick = tick_of r.us; input = input_at v r.us (item_among ports session r.channel r.octets) }

-- records, the oldest first, as its history, the newest first
abbrev pub history_at : List ℕ → Session → ℕ → List Record → List ReceiverStep
history_at ports session v rs = reverse (map (step_at ports session v) rs)
