use Rattle.std.proofs.Common.{arith}
use Rattle.psk_keys.proofs.SumLemmas.{zip2_from_octets}
use Rattle.psk_keys.proofs.derivation.add.Goals as goal

pub returns : goal.returns
returns c =
    zip2_from_octets c.args.sum.now c.args.value.now c.loop-place.sum (omega arith) (omega arith) (λ k low. c.loop-place.invariant.done k (omega arith))
