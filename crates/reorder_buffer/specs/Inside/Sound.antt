-- What holds of each buffer's state, whatever came.
use Rattle.std.specs.Prelude.{◌≡◌, ◌≢◌, ◌+◌, ◌≤◌, ◌^◌, length}
use Rattle.std.specs.Option.{ForSome}
use Rattle.receiver_rules.specs.Bounds.{AreInRange, IsEarlyAnchor, IsMidHighest, IsClockWithin}
use Rattle.receiver_rules.specs.Packets.{IsRising}
use Rattle.reorder_buffer.specs.declared.phase.Phase.TheVariants.{Failed}
use Rattle.reorder_buffer.specs.State.{State}
use Rattle.reorder_buffer.specs.Inside.Span.{AllBelow, IsWithin}
use Rattle.reorder_buffer.specs.Inside.Shown.{state_of}
use Rattle.reorder_buffer.specs.declared.buffer.Buffer.TheInside.{Inside}

-- the buffered numbers rise strictly from the floor on, and lie within the capacity; no more epochs were opened than
-- ticks have passed; and no more originals came than there are numbers below the floor and packets that wait
pub record IsSound (b : State) : Type 0 where
  pub limits : AreInRange b.limits
  pub anchor : ForSome b.anchor (IsEarlyAnchor b.time)
  pub highest : ForSome b.highest IsMidHighest
  pub rising : IsRising b.floor b.held
  pub within : IsWithin b.limits.capacity b.held
  pub below : AllBelow (2 ^ 62) b.held
  pub last : b.last ≤ b.time
  pub epoch : b.epoch ≤ b.last
  pub floor : b.floor ≤ 2 ^ 62
  pub clock : b.phase ≢ Failed → ForSome b.anchor (λ a. IsClockWithin a.time (b.floor + length b.held) b.clock)

-- the state is sound, and the ring has a place for each packet of the span
pub record IsSoundInside (fields : Inside) : Type 0 where
  pub state : IsSound (state_of fields)
  pub places : fields.ring.capacity ≡ fields.limits.capacity
