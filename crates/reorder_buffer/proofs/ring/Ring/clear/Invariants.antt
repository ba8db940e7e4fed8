-- as many places as before
use Rattle.std.proofs.Common.{◌≡◌, length}
use Rattle.reorder_buffer.proofs.ring.Ring.clear.Given as goal

abbrev pub invariant-loop-self : goal.invariant-loop-self
invariant-loop-self l = l.self.capacity ≡ l.fn.self.capacity

abbrev pub decreases-loop-self : goal.decreases-loop-self
decreases-loop-self l = length l.self.packets
