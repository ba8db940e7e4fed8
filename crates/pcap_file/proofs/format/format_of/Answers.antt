use Rattle.std.proofs.Common.{ℕ, ◌%◌, ◌^◌, sym, ap, ◌∙◌, arith, inl, inr}
use Rattle.std.proofs.lemmas.Nat.{and_mask}
use Rattle.pcap_file.specs.Tests.{kind_of}
use Rattle.pcap_file.proofs.NumberLemmas.{header-back, known-link}
use Rattle.pcap_file.proofs.format.format_of.Goals as goal

pub returns-clause-header : goal.returns-clause-header
returns-clause-header c =
    header-back (record { order = c.in-Some.order; fraction = c.in-Some.fraction; link_type = _ }) c.args.octets.now
    (λ i. omega (arith, c.type_inv.octets i)) (omega (arith, c.requires.most, c.if-octets-lt-HEADER_LEN.false))
    (ap kind_of (sym c.u32_at.ensures.value) ∙ sym c.in-Some.ensures.value)
    (sym c.number_16_at.ensures.value ∙ c.if-number_16_at-ne2.false)
    (sym c.number_16_at-else-number_16_at-ne2.ensures.value ∙ c.if-number_16_at-ne4.false)
    (ap (λ (n : ℕ). n % 2 ^ 16) (sym c.number_32_at.ensures.value) ∙ sym (and_mask c.number_32_at.result 16))
    (elim c.else-link_type-ne-ETHERNET.either [ inl p ↦ known-link _ (inr p.1) | inr q ↦ known-link _ (inl q) ])
