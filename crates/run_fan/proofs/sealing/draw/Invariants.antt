-- those so far are new, and drawn one behind another without a fault
use Rattle.std.proofs.Common.{◌≡◌, ◌≤◌, ◌-◌, length}
use Rattle.std.specs.Prelude.{vec_capacity}
use Rattle.std.specs.List.{All}
use Rattle.run_fan.specs.Inside.Making.{IsNewSealer}
use Rattle.run_fan.specs.Sealing.{AreDrawn}
use Rattle.run_fan.proofs.sealing.draw.Given as goal

abbrev pub invariant-loop-entropy : goal.invariant-loop-entropy
invariant-loop-entropy g l = record {
  few : length l.sealers.items ≤ l.count;
  room : l.count ≤ vec_capacity l.sealers;
  drawn : AreDrawn (g.E.Entropy.remaining l.initial.entropy) (g.E.Entropy.remaining l.entropy) l.sealers.items;
  new : All IsNewSealer l.sealers.items;
  none : g.E.Entropy.faults l.entropy ≡ g.E.Entropy.faults l.initial.entropy;
}

abbrev pub decreases-loop-entropy : goal.decreases-loop-entropy
decreases-loop-entropy g l = l.count - length l.sealers.items
