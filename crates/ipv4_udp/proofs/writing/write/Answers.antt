use Rattle.std.proofs.Common.{◌∙◌, arith}
use Rattle.ipv4_udp.specs.declared.ip.Sums.TheVariants.{Test}
use Rattle.ipv4_udp.specs.Writing.{datagram_with}
use Rattle.ipv4_udp.proofs.WholeLemmas.{reading-spelled}
use Rattle.ipv4_udp.proofs.WritingLemmas.{spelling-written, spelling-spells}
use Rattle.ipv4_udp.proofs.writing.write.Goals as goal

pub returns-clause-octets : goal.returns-clause-octets
returns-clause-octets c =
    spelling-written c.args.head.now c.args.payload.now _ _ _ c.udp_header_with.result c.header_sum_with-header_sum.result c.udp_sum_with-udp_sum.result
    c.put_at.ensures.octets c.put_at-at-2.ensures.octets (c.put_at-at.ensures.octets ∙ c.header_with.ensures.octets) c.udp_header_with.ensures.octets
    c.header_sum_with-header_sum.ensures.value c.udp_sum_with-udp_sum.ensures.value

pub returns-clause-spelled : goal.returns-clause-spelled
returns-clause-spelled c =
    spelling-spells (datagram_with c.args.head.now c.args.payload.now) _ c.udp_sum_with-udp_sum.ensures.fits c.requires.payload
    (λ i. omega (arith, c.type_inv.payload i)) (returns-clause-octets c)

pub returns-clause-read_back : goal.returns-clause-read_back
returns-clause-read_back c = reading-spelled Test (datagram_with c.args.head.now c.args.payload.now) _ (returns-clause-spelled c)
