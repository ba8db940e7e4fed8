use Rattle.std.proofs.Common.{◌≡◌}
use Rattle.psk_seal.specs.Nonces.{Draws}
use Rattle.psk_seal.proofs.sealer.Sealer.with.Given as goal

abbrev pub invariant-loop-place : goal.invariant-loop-place
invariant-loop-place g l = record {
  drawn : Draws (g.E.Entropy.remaining l.fn.entropy) (g.E.Entropy.remaining l.entropy) l.nonces l.place;
  faults : g.E.Entropy.faults l.entropy ≡ g.E.Entropy.faults l.fn.entropy;
}
