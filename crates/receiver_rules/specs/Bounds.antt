-- Bounds under which no machine number wraps. They hold of each receiver, whatever comes.
use Rattle.std.specs.Prelude.{ℕ, ℤ, pos, ◌≤ℤ◌, ◌+ℤ◌, ◌+◌, ◌-◌, ◌/◌, ◌*◌, ◌^◌, ◌<◌, ◌≤◌, Option, IsNone}
use Rattle.receiver_rules.specs.declared.bounds.TheConstants.{MAX_DELAY, MAX_RESTART, MAX_SPAN}
use Rattle.receiver_rules.specs.declared.limits.Limits.{Limits}
use Rattle.receiver_rules.specs.declared.anchor.Anchor.{Anchor}
use Rattle.receiver_rules.specs.declared.anchor.Highest.{Highest}
use Rattle.receiver_rules.specs.declared.clock.Clock.{Clock}
use Rattle.receiver_rules.specs.Packets.{Packet}

-- a delay of at least a tick and at most the longest, room for a packet at least and at most the widest span, and at
-- most the longest restart time
pub record AreInRange (limits : Limits) : Type 0 where
  pub some_delay : 1 ≤ limits.playout_delay
  pub delay : limits.playout_delay ≤ 90 * MAX_DELAY
  pub some : 1 ≤ limits.capacity
  pub capacity : limits.capacity ≤ MAX_SPAN
  pub restart : limits.restart_time ≤ 90 * MAX_RESTART

-- an anchor that came at the tick or before it
pub record IsEarlyAnchor (now : ℕ) (anchor : Anchor) : Type 0 where
  pub since : anchor.time ≤ now
  pub time : anchor.time < 2 ^ 61
  pub low : 2 ^ 60 ≤ anchor.timestamp
  pub timestamp : anchor.timestamp < 2 ^ 60 + 2 ^ 32

-- a base near the anchor's time, from which no deadline wraps
pub record IsNearBase (time : ℕ) (base : ℤ) : Type 0 where
  pub low : pos time ≤ℤ (base +ℤ pos (2 ^ 58))
  pub high : base ≤ℤ pos (time + 2 ^ 58)

-- a time from which no sum of two wraps
pub record IsMidTick (tick : ℤ) : Type 0 where
  pub low : pos 0 ≤ℤ (tick +ℤ pos (2 ^ 62))
  pub high : tick ≤ℤ pos (2 ^ 62 - 1)

-- a clock whose base has moved by at most 9 ticks for each window of 1,024 originals
pub record IsNearTime (time : ℕ) (clock : Clock) : Type 0 where
  pub low : pos time ≤ℤ (clock.base +ℤ pos (9 * (clock.originals / 1024)))
  pub high : clock.base ≤ℤ pos (time + 9 * (clock.originals / 1024))
  pub least : IsMidTick clock.least

-- and by no more windows than so many originals fill
pub record IsClockWithin (time originals : ℕ) (clock : Clock) : Type 0 where
  pub near : IsNearTime time clock
  pub few : clock.originals ≤ originals

-- far from both ends of the numbers that can be unwrapped against it
pub record IsMidHighest (highest : Highest) : Type 0 where
  pub low : 2 ^ 40 ≤ highest.number
  pub high : highest.number < 2 ^ 62
  pub timestamp_low : 2 ^ 59 ≤ highest.timestamp
  pub timestamp_high : highest.timestamp < 2 ^ 62

-- a packet that may become the highest
pub record IsMid (highest : Option Highest) (p : Packet) : Type 0 where
  pub first : IsNone highest → 2 ^ 40 ≤ p.number
  pub timestamp_low : 2 ^ 59 ≤ p.timestamp
  pub timestamp_high : p.timestamp < 2 ^ 62
