use Rattle.std.proofs.Common.{subst, length, ap, ◌∙◌, ◌%◌, ◌+◌, ◌-◌, ◌≡◌, ◌++◌, List, ℕ, sym, arith}
use Rattle.octet_fields.proofs.OctetLemmas.{AreOctets-from_all}
use Rattle.ipv4_udp.specs.Sum.{words_of, ones_sum}
use Rattle.ipv4_udp.specs.Writing.{datagram_with}
use Rattle.ipv4_udp.proofs.SumLemmas.{ones-three, pseudo-even}
use Rattle.ipv4_udp.proofs.WritingLemmas.{udp-even}
use Rattle.ipv4_udp.proofs.writing.computed_sum_with.Goals as goal

pub returns-clause-value : goal.returns-clause-value
returns-clause-value c =
    let d = datagram_with c.args.head.now c.args.payload.now in
    let before-is = c.pseudo_header.ensures.value in
    ap (λ (n : ℕ). 65535 - n)
    (ones-three c.pseudo_header.result c.udp_header_with.result c.args.payload.now _ _ (AreOctets-from_all _ c.total_of-before.ensures.fits)
    (AreOctets-from_all _ c.total_of-header.ensures.fits) (AreOctets-from_all _ c.total_of.ensures.fits)
    (subst (λ (x : List ℕ). length x % 2 ≡ 0) (sym before-is) (pseudo-even c.args.head.now.from c.args.head.now.to (8 + length c.args.payload.now)))
    (udp-even d c.udp_header_with.result 0 c.udp_header_with.ensures.octets)
    (omega (arith, c.total_of-before.ensures.value, c.total_of-header.ensures.value, c.total_of.ensures.value)) c.folded.ensures.value
    ∙ (λ i. ones_sum (words_of (before-is i ++ c.udp_header_with.ensures.octets i))))
