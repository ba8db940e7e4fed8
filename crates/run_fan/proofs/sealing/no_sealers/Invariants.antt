-- those so far are none
use Rattle.std.proofs.Common.{◌≡◌, ◌≤◌, ◌-◌, None, length}
use Rattle.std.specs.Prelude.{vec_capacity}
use Rattle.std.specs.List.{All}
use Rattle.run_fan.proofs.sealing.no_sealers.Given as goal

abbrev pub invariant-loop-sealers : goal.invariant-loop-sealers
invariant-loop-sealers l = (length l.sealers.items ≤ l.count) × (l.count ≤ vec_capacity l.sealers) × All (λ sealer. sealer ≡ None) l.sealers.items

abbrev pub decreases-loop-sealers : goal.decreases-loop-sealers
decreases-loop-sealers l = l.count - length l.sealers.items
