-- What goes out where the floor rises.
use Rattle.std.specs.Prelude.{ℕ, max, List, map}
use Rattle.std.specs.List.{filter, concat}
use Rattle.receiver_rules.specs.Packets.{Packet, Moment, is_below, playout_floor}
use Rattle.reorder_buffer.specs.State.{State}

-- the octets of the packets below the floor, one after another
abbrev pub octets_below : ℕ → List Packet → List ℕ
octets_below floor packets = concat (map (λ p. p.payload) (filter (is_below floor) packets))

-- the floor at a moment, no lower than it was
abbrev pub floor_from : ℕ → Moment → List Packet → ℕ
floor_from floor moment packets = max floor (playout_floor packets moment)

-- the floor at a later moment
abbrev pub floor_then : State → Moment → ℕ
floor_then b later = floor_from b.floor later b.held
