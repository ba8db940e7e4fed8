use Rattle.std.proofs.Common.{◌∙◌, arith}
use Rattle.ipv4_udp.proofs.WholeLemmas.{found_from, reading-spelled}
use Rattle.ipv4_udp.proofs.ip.Ip.read.Goals as goal

pub returns-clause-found : goal.returns-clause-found
returns-clause-found c =
    found_from c.args.sums c.args.octets.now _ (λ i. omega (arith, c.type_inv.octets i)) c.view_of.ensures.value

pub returns-clause-only : goal.returns-clause-only
returns-clause-only c = λ datagram spells. c.view_of.ensures.value ∙ reading-spelled c.args.sums datagram c.args.octets.now spells
