-- the numbers that were noted
use Rattle.std.proofs.Common.{◌≡◌, ◌≤◌, ◌-◌, ◌++◌, max}
use Rattle.circular_buffer.specs.Buffer.{keep_last}
use Rattle.nack_timer.specs.Inside.Raise.{new_entries}
use Rattle.nack_timer.proofs.timer.note_missing.Given as goal

abbrev pub invariant-loop-number : goal.invariant-loop-number
invariant-loop-number l =
    (l.missing.items ≡ keep_last l.initial.missing.capacity (l.initial.missing.items ++ new_entries l.at l.low (l.number - l.low)))
    × (l.missing.capacity ≡ l.initial.missing.capacity) × (l.number ≤ max l.low l.high)
