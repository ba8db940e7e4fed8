-- How full a receiver's buffer is over the history of its steps, and where the base of its deadlines lies.
use Rattle.std.specs.Prelude.{ℕ, ℤ, pos, List, [], ◌∷◌, length}
use Rattle.std.specs.declared.option.Option.{Option}
use Rattle.std.specs.declared.option.Option.TheVariants.{None, Some}
use Rattle.receiver_rules.specs.declared.limits.Limits.{Limits}
use Rattle.receiver_rules.specs.Packets.{highest_of}
use Rattle.receiver_rules.specs.Epochs.{Epoch, base_of, epochs_of}
use Rattle.receiver_rules.specs.History.{accepted_packets, anchor_of, buffered_packets}
use Rattle.receiver_rules.specs.Steps as buffer
use Rattle.reorder_buffer.specs.Fill.{fill_by}

-- the base of the newest epoch
abbrev pub base_at : Limits → List Epoch → Option ℤ
base_at limits [] = None
base_at limits (current ∷ earlier) = Some (base_of limits current)

-- the same, and 0 where no epoch is open
abbrev pub base_or_0 : Option ℤ → ℤ
base_or_0 None = pos 0
base_or_0 (Some base) = base

-- how full the buffer is, in ticks of 1/90,000 s: how far ahead of the effective time the packet with the highest
-- number is due, by the base of now; 0 where nothing waits
abbrev pub fill_at : Limits → List buffer.Step → ℕ
fill_at limits history =
    fill_by limits (anchor_of limits history) (base_or_0 (base_at limits (epochs_of limits history)))
    (highest_of (accepted_packets limits history)) (buffer.effective_time history)
    (length (buffered_packets limits history))
