use Rattle.std.proofs.Common.{arith}
use Rattle.rtp_packet.proofs.WholeLemmas.{found_from, only_from}
use Rattle.rtp_packet.proofs.rtp.Rtp.read.Goals as goal

pub returns-clause-found : goal.returns-clause-found
returns-clause-found c =
    found_from c.args.octets.now _ (λ i. omega (arith, c.type_inv.octets i)) c.view_of.ensures.value

pub returns-clause-only : goal.returns-clause-only
returns-clause-only c = only_from c.args.octets.now _ c.view_of.ensures.value
