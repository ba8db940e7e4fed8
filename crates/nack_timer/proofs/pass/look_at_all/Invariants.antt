-- the entries that were looked at
use Rattle.std.proofs.Common.{◌≡◌, ◌≤◌, length, drop}
use Rattle.nack_timer.proofs.PassLemmas.{Passing}
use Rattle.nack_timer.proofs.pass.look_at_all.Given as goal

abbrev pub invariant-loop-place : goal.invariant-loop-place
invariant-loop-place l =
    Passing l.policy l.rtt l.t l.low l.buffer.held l.initial.missing.items (drop l.place l.initial.missing.items) l.missing.items l.words
    × (length l.missing.items ≤ l.missing.capacity) × (l.missing.capacity ≡ l.initial.missing.capacity)
