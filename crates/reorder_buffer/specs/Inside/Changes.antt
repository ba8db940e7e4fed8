-- How one call changes the state.
use Rattle.std.specs.Prelude.{ℕ, ◌+◌, Bool, true, not, ◌&&◌, ◌==◌, nat_eq, nat_lt, nat_le, length, Option, Some, None}
use Rattle.std.specs.Prelude.{if◌then◌else◌}
use Rattle.receiver_rules.specs.declared.anchor.Anchor.{Anchor}
use Rattle.receiver_rules.specs.Packets.{Packet, insert_by_number, is_from, higher, is_kept}
use Rattle.std.specs.List.{filter}
use Rattle.receiver_rules.specs.declared.clock.Clock.{Clock}
use Rattle.receiver_rules.specs.Seen.{counted_clock}
use Rattle.receiver_rules.specs.Steps.{Arrival}
use Rattle.reorder_buffer.specs.Inside.Tests.{anchor_at, clock_at, placed_at, judged}
use Rattle.reorder_buffer.specs.State.{State}

-- one more packet waits
abbrev pub holding : State → Packet → State
holding b p =
    record {
      limits = b.limits;
      phase = b.phase;
      time = b.time;
      anchor = b.anchor;
      floor = b.floor;
      highest = Some (higher p b.highest);
      held = insert_by_number p b.held;
      last = b.last;
      epoch = b.epoch;
      clock = b.clock;
    }

-- the first arrival of an epoch fixes the anchor, each moves the time, one that is kept is the last, and an original
-- that is kept moves the clock
abbrev pub moved : State → ℕ → Anchor → Clock → Bool → State
moved b t a clock kept =
    record {
      limits = b.limits;
      phase = b.phase;
      time = t;
      anchor = Some a;
      highest = b.highest;
      floor = b.floor;
      held = b.held;
      last = if kept then t else b.last;
      epoch = b.epoch;
      clock = clock;
    }

-- the clock after an arrival of the epoch
abbrev pub clock_then : State → ℕ → Arrival → Bool → Clock
clock_then b t arrival kept =
    counted_clock b.limits (anchor_at b t arrival) (clock_at b t) t (placed_at b t arrival).timestamp
    (kept && not arrival.again)

-- what one arrival of the epoch leaves
abbrev pub taken : State → ℕ → Arrival → State
taken b t arrival =
    let kept = is_kept (judged b t arrival) in
    moved (if kept then holding b (placed_at b t arrival) else b) t (anchor_at b t arrival)
    (clock_then b t arrival kept) kept

-- the packets below the floor have gone out
abbrev pub raised : State → ℕ → State
raised b floor =
    record {
      limits = b.limits;
      phase = b.phase;
      time = b.time;
      anchor = b.anchor;
      highest = b.highest;
      floor = floor;
      held = filter (is_from floor) b.held;
      last = b.last;
      epoch = b.epoch;
      clock = b.clock;
    }

-- ---- epochs

-- a packet of this flow opens an epoch, where this was fixed by the first of the current one
abbrev pub is_opening : State → Option Anchor → ℕ → ℕ → Bool
is_opening b None t flow = true
is_opening b (Some anchor) t flow =
    not (flow == anchor.flow)
    && (nat_lt 0 b.limits.restart_time && (nat_eq (length b.held) 0 && nat_le (b.last + b.limits.restart_time) t))

-- the next epoch's place: the first arrival opens the first, and no other
abbrev pub next_epoch : Option Anchor → ℕ → ℕ
next_epoch None epoch = epoch
next_epoch (Some anchor) epoch = epoch + 1

-- a new epoch, in which nothing came yet, where this was fixed by the first of the one before
abbrev pub begun : State → Option Anchor → ℕ → State
begun b None t =
    record {
      limits = b.limits;
      phase = b.phase;
      time = t;
      anchor = b.anchor;
      highest = b.highest;
      floor = b.floor;
      held = b.held;
      last = t;
      epoch = b.epoch;
      clock = b.clock;
    }
begun b (Some anchor) t =
    record {
      limits = b.limits;
      phase = b.phase;
      time = t;
      anchor = None;
      highest = None;
      floor = 0;
      held = b.held;
      last = t;
      epoch = b.epoch + 1;
      clock = b.clock;
    }

-- what a packet of this flow finds: a new epoch, where it opens one
abbrev pub opened_at : State → ℕ → ℕ → State
opened_at b t flow = if is_opening b b.anchor t flow then begun b b.anchor t else b
