use Rattle.std.proofs.Common.{◌∙◌, arith}
use Rattle.pcap_file.specs.Pcap.{head_spelling}
use Rattle.pcap_file.proofs.NumberLemmas.{head-back}
use Rattle.pcap_file.proofs.head.head_of.Goals as goal

pub returns-clause-octets : goal.returns-clause-octets
returns-clause-octets c =
    (λ i. head_spelling c.args.order (c.number_32_at.ensures.value i) (c.number_32_at-2.ensures.value i) (c.number_32_at-kept.ensures.value i) (c.number_32_at-3.ensures.value i))
    ∙ head-back c.args.order c.args.octets.now (λ i. omega (arith, c.type_inv.octets i)) c.requires
