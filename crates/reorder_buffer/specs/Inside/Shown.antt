-- How the fields of a ring show what waits, and those of a buffer its state.
use Rattle.std.specs.Prelude.{length}
use Rattle.reorder_buffer.specs.State.{State}
use Rattle.reorder_buffer.specs.Inside.Ring.{Waiting, packets_in, IsStanding}
use Rattle.reorder_buffer.specs.declared.ring.Ring.TheInside.{Inside as RingInside}
use Rattle.reorder_buffer.specs.declared.buffer.Buffer.TheInside.{Inside}

-- the packets of all places
abbrev pub shown_waiting : RingInside → Waiting
shown_waiting ring =
    record { capacity = length ring.places.items; packets = packets_in ring.places.items ring.pool.items }

-- what is kept beside them follows from them
abbrev pub IsShownRing : RingInside → Type 0
IsShownRing ring = IsStanding ring.places.items ring.pool.items ring.index ring.ends ring.first ring.count

-- a buffer's fields as its state. How the ring holds the packets can't be seen
abbrev pub state_of : Inside → State
state_of b =
    record {
      limits = b.limits;
      phase = b.phase;
      time = b.time;
      anchor = b.anchor;
      highest = b.highest;
      floor = b.floor;
      held = b.ring.packets;
      last = b.last;
      epoch = b.epoch;
      clock = b.clock;
    }
