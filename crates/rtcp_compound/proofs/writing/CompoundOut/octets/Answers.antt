use Rattle.std.proofs.Common.{ap}
use Rattle.rtcp_compound.specs.Writing.{Written}
use Rattle.rtcp_compound.proofs.WritingLemmas.{compound_written}
use Rattle.rtcp_compound.proofs.writing.CompoundOut.octets.Goals as goal

pub returns-clause-compound : goal.returns-clause-compound
returns-clause-compound c = λ some.
    let octets = ap (λ (w : Written). w.octets) c.self.view_is in
    let packets = ap (λ (w : Written). w.packets) c.self.view_is in
    rw (← packets) (compound_written _ c.self.invariant.1 (rw octets some))
