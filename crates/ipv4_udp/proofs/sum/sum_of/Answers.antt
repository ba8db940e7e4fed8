use Rattle.std.proofs.Common.{arith}
use Rattle.ipv4_udp.proofs.SumLemmas.{ones-folded_of}
use Rattle.ipv4_udp.proofs.sum.sum_of.Goals as goal

pub returns : goal.returns
returns c = record {
  value = ones-folded_of c.args.octets.now _ _ (λ i. omega (arith, c.type_inv.octets i)) c.total_of.ensures.value c.folded.ensures.value;
}
