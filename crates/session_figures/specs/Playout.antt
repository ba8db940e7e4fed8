-- The playout over the history of a receiver's steps: what each step tells of it.
use Rattle.std.specs.Prelude.{ℕ, ◌-◌, ◌/◌, ℤ, ◌-ℤ◌, int_lt, unsigned_abs, List, ◌==◌}
use Rattle.std.specs.Prelude.{if◌then◌else◌}
use Rattle.std.specs.declared.option.Option.{Option}
use Rattle.std.specs.declared.option.Option.TheVariants.{None, Some}
use Rattle.receiver_rules.specs.declared.limits.Limits.{Limits}
use Rattle.receiver_rules.specs.Epochs.{epochs_of}
use Rattle.receiver_rules.specs.Steps as buffer
use Rattle.rist_ends.specs.Fill.{base_at, fill_at}
use Rattle.session_figures.specs.declared.playout.Playout.{Playout}
use Rattle.session_figures.specs.declared.playout.Standing.{Standing}

-- how the playout stands after a history
abbrev pub standing_of : Limits → List buffer.Step → Standing
standing_of limits history =
    record { fill = fill_at limits history; base = base_at limits (epochs_of limits history) }

-- how far one base lies behind another
abbrev pub base_after : ℤ → ℤ → ℕ
base_after old new = if int_lt old new then unsigned_abs (new -ℤ old) else 0

-- by how many ticks a base moved to later, where there was one before
abbrev pub moved_later : Option ℤ → Option ℤ → ℕ
moved_later None new = 0
moved_later (Some old) None = 0
moved_later (Some old) (Some new) = base_after old new

-- by how many ticks of the playout delay the buffer had run down, where an epoch was open
abbrev pub used_of : Option ℤ → ℕ → ℕ → ℕ
used_of None delay left = 0
used_of (Some base) delay left = delay - left

-- an amount, unless the flow restarts
abbrev pub unless_restarted : ℕ → ℕ → ℕ
unless_restarted restarts amount = if restarts == 0 then amount else 0

-- What a step tells of the playout, by how it stood before and stands after it, by the playout delay, by how many ticks
-- the step moved the time, and by how often the flow restarted in it. In milliseconds, rounded down: the fill after the
-- step, and how much of the playout delay was used up as it came. In ticks: by how much the base moved to later, and to
-- earlier.
abbrev pub playout_between : Standing → Standing → ℕ → ℕ → ℕ → Playout
playout_between before after delay waited restarts =
    record {
      fill = after.fill / 90;
      used = used_of before.base delay (before.fill - waited) / 90;
      later = unless_restarted restarts (moved_later before.base after.base);
      earlier = unless_restarted restarts (moved_later after.base before.base);
    }
