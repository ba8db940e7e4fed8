-- what remains is the same, some of it read
use Rattle.std.proofs.Common.{◌≡◌, ◌-◌, length}
use Rattle.block_source.proofs.block.Block.gather.Given as goal

abbrev pub invariant-loop-self : goal.invariant-loop-self
invariant-loop-self g l = record {
  same : l.self.remaining ≡ l.fn.self.remaining;
  faults : l.self.faults ≡ l.fn.self.faults;
}

abbrev pub decreases-loop-self : goal.decreases-loop-self
decreases-loop-self g l = l.count - length l.self.ahead
