-- How full a buffer is, in ticks of 1/90,000 s (this profile).
use Rattle.std.specs.Prelude.{ℕ, ◌-◌, ℤ, pos, negsuc, ◌==◌, if◌then◌else◌, length, Option, None, Some}
use Rattle.std.specs.Option.{option_map}
use Rattle.receiver_rules.specs.declared.limits.Limits.{Limits}
use Rattle.receiver_rules.specs.declared.anchor.Anchor.{Anchor}
use Rattle.receiver_rules.specs.declared.anchor.Highest.{Highest}
use Rattle.receiver_rules.specs.Packets.{deadline_of}
use Rattle.reorder_buffer.specs.State.{State}

-- how far a deadline lies ahead of a time, and 0 where it does not
abbrev pub ahead_of : ℕ → ℤ → ℕ
ahead_of time (pos deadline) = deadline - time
ahead_of time (negsuc deadline) = 0

-- how far ahead of a time the packet with the highest number is due, by its timestamp and by the base
abbrev pub lead_of : Limits → Option Anchor → ℤ → Option Highest → ℕ → ℕ
lead_of limits None base highest time = 0
lead_of limits (Some anchor) base None time = 0
lead_of limits (Some anchor) base (Some highest) time =
    ahead_of time (deadline_of limits anchor base highest.timestamp)

-- that, where so many packets wait, and 0 where none does
abbrev pub fill_by : Limits → Option Anchor → ℤ → Option Highest → ℕ → ℕ → ℕ
fill_by limits anchor base highest time waiting =
    if waiting == 0 then 0 else lead_of limits anchor base highest time

-- a buffer's fill
abbrev pub fill_of : State → ℕ
fill_of b = fill_by b.limits b.anchor b.clock.base b.highest b.time (length b.held)

-- the base of the epoch that is open, and none where none is
abbrev pub base_in : State → Option ℤ
base_in b = option_map (λ a. b.clock.base) b.anchor
