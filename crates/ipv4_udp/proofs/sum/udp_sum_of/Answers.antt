use Rattle.std.proofs.Common.{subst, length, ap, ◌∙◌, ◌%◌, ◌≡◌, ◌++◌, List, ℕ, sym, arith}
use Rattle.octet_fields.proofs.OctetLemmas.{AreOctets-from_all}
use Rattle.ipv4_udp.specs.Sum.{words_of, ones_sum}
use Rattle.ipv4_udp.proofs.SumLemmas.{ones-both, pseudo-even}
use Rattle.ipv4_udp.proofs.sum.udp_sum_of.Goals as goal

pub returns : goal.returns
returns c =
    let header-is = c.pseudo_header.ensures.value in record {
      value =
          ones-both c.pseudo_header.result c.args.udp.now _ _ (AreOctets-from_all _ c.total_of.ensures.fits) (AreOctets-from_all _ c.total_of-2.ensures.fits)
          (subst (λ (x : List ℕ). length x % 2 ≡ 0) (sym header-is) (pseudo-even c.args.from c.args.to c.args.len))
          (omega (arith, c.total_of.ensures.value, c.total_of-2.ensures.value)) c.folded.ensures.value
          ∙ ap (λ (x : List ℕ). ones_sum (words_of (x ++ c.args.udp.now))) header-is;
    }
