use Rattle.std.proofs.Common.{arith}
use Rattle.rtcp_compound.proofs.CompoundLemmas.{packets_of_compound, packets_few}
use Rattle.rtcp_compound.proofs.compound.Compound.packets.Goals as goal

pub invariant_of-result : goal.invariant_of-result
invariant_of-result c = packets_of_compound c.self.inside.octets.now c.self.invariant

pub returns-clause-within : goal.returns-clause-within
returns-clause-within c = omega (arith, packets_few c.self.inside.octets.now)
