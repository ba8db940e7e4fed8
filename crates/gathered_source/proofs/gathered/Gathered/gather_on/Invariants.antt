-- what is left is the same, some of it gathered
use Rattle.std.proofs.Common.{◌≡◌, ◌-◌, length, true, false, ◌||◌}
use Rattle.outside_io.specs.Told.{IsPrefix}
use Rattle.gathered_source.proofs.gathered.Gathered.gather_on.Given as goal

abbrev pub invariant-loop-self : goal.invariant-loop-self
invariant-loop-self g l = record {
  left : l.self.left ≡ l.fn.self.left;
  front : IsPrefix l.fn.self.ahead l.self.ahead;
  faults : l.self.faults ≡ l.fn.self.faults;
  cause : l.self.has_failed ≡ l.fn.self.has_failed × (l.fn.self.has_failed ≡ false → g.S.Source.faults l.self.source ≡ g.S.Source.faults l.fn.self.source);
  done : (l.fn.self.has_ended || l.fn.self.has_failed) ≡ true → l.self ≡ l.fn.self;
}

abbrev pub decreases-loop-self : goal.decreases-loop-self
decreases-loop-self g l = l.count - length l.self.ahead
