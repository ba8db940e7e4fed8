-- What a reorder buffer keeps, as its clauses see it.
use Rattle.std.specs.Prelude.{ℕ, ◌-◌, ◌≤◌, ◌==◌, if◌then◌else◌, List, [], Option, None, Some}
use Rattle.receiver_rules.specs.declared.limits.Limits.{Limits}
use Rattle.receiver_rules.specs.declared.anchor.Anchor.{Anchor}
use Rattle.receiver_rules.specs.declared.anchor.Highest.{Highest}
use Rattle.receiver_rules.specs.declared.clock.Clock.{Clock}
use Rattle.receiver_rules.specs.Packets.{Packet}
use Rattle.reorder_buffer.specs.declared.phase.Phase.{Phase}
use Rattle.reorder_buffer.specs.declared.phase.Phase.TheVariants.{Failed}

-- a buffer: its limits, whether it takes arrivals, and what it keeps of the current epoch: its anchor, and the packets
-- that wait
pub record State : Type 0 where
  pub limits : Limits
  pub phase : Phase
  -- the effective time of the last step
  pub time : ℕ
  pub anchor : Option Anchor
  -- the packet with the highest number that was kept
  pub highest : Option Highest
  -- numbers below it are out, or can go out no more
  pub floor : ℕ
  -- the packets that wait, by rising number
  pub held : List Packet
  -- the effective time at which a packet was last kept
  pub last : ℕ
  -- how often the flow has restarted
  pub epoch : ℕ
  -- what the deadlines of the next packets count from
  pub clock : Clock

-- the number just below a floor
abbrev pub number_below : ℕ → Option ℕ
number_below floor = if floor == 0 then None else Some (floor - 1)

-- after a failed write all is as it was, but that nothing waits
abbrev pub failed : State → State
failed b =
    record {
      limits = b.limits;
      phase = Failed;
      time = b.time;
      anchor = b.anchor;
      highest = b.highest;
      floor = b.floor;
      held = [];
      last = b.last;
      epoch = b.epoch;
      clock = b.clock;
    }

-- the highest number is no lower than it was
abbrev pub IsNoLower : Option Highest → Option Highest → Type 0
IsNoLower None new = Unit {0}
IsNoLower (Some old) None = ⊥
IsNoLower (Some old) (Some new) = old.number ≤ new.number
