-- The datagram that stands in octets, from a spelling and back to it.
use Rattle.std.proofs.Common.{◌≡◌, ℕ, ◌-◌, List, ◌++◌, length, drop, Result, Ok, Err, refl, sym, ap, ◌∙◌, append_assoc, subst, arith}
use Rattle.std.specs.Prelude.{IfOk}
use Rattle.std.proofs.lemmas.List.{length-append, length-drop}
use Rattle.octet_fields.proofs.OctetLemmas.{AreOctets, AreOctets-drop, AreOctets-take}
use Rattle.octet_fields.proofs.NumberLemmas.{u32-fits}
use Rattle.ipv4_udp.specs.declared.ip.IpBad.{IpBad}
use Rattle.ipv4_udp.specs.declared.ip.Sums.{Sums}
use Rattle.ipv4_udp.specs.declared.ip.Sums.TheVariants.{Test, Skip}
use Rattle.ipv4_udp.specs.Ip.{Datagram, OtherFields, HasSums, Spells, header_octets, udp_octets, udp_length}
use Rattle.ipv4_udp.specs.Reading.{number_at, address_at, header_len, total_len, udp_len, udp_in, value_in, udp_reading, reading_of}
use Rattle.ipv4_udp.proofs.UdpLemmas.{HasUdpSum, udp-spelled, udp-ok, udp-back}
use Rattle.ipv4_udp.proofs.HeaderLemmas.{HasHeaderSum, header-passes, header-ok, header-spelled, header-back, fields_in}

-- ---- the checksums, part by part
udp-size : (d : Datagram) (udp_sum : ℕ) → length (udp_octets d udp_sum) ≡ udp_length d
unfolding udp_octets
udp-size d udp_sum = omega arith

header-sum-of : (sums : Sums) (d : Datagram) (o : OtherFields) → HasSums sums d o → HasHeaderSum sums (header_octets d o)
header-sum-of Test d o has = has.header
header-sum-of Skip d o has = tt

udp-sum-of : (sums : Sums) (d : Datagram) (o : OtherFields) → HasSums sums d o → HasUdpSum sums d.from d.to (udp_length d) o.udp_sum (udp_octets d o.udp_sum)
udp-sum-of Test d o has = has.udp
udp-sum-of Skip d o has = tt

both-sums : (sums : Sums) (d : Datagram) (o : OtherFields) → HasHeaderSum sums (header_octets d o) → HasUdpSum sums d.from d.to (udp_length d) o.udp_sum (udp_octets d o.udp_sum)
    → HasSums sums d o
both-sums Test d o header udp = record { header = header; udp = udp }
both-sums Skip d o header udp = tt

-- ---- what is spelled is read
pub reading-spelled : (sums : Sums) (d : Datagram) (octets : List ℕ) → Spells sums d octets → reading_of sums octets ≡ Ok d
reading-spelled sums d octets spells =
    let o : OtherFields = spells.others in
    let whole : List ℕ = udp_octets d o.udp_sum in
    let udp : List ℕ = whole ++ o.padding in
    let size : length whole ≡ udp_length d = udp-size d o.udp_sum in
    let grouped : octets ≡ header_octets d o ++ (udp ++ o.trailer) =
    spells.whole ∙ ap (λ (x : List ℕ). header_octets d o ++ x) (sym (append_assoc whole o.padding o.trailer)) in
    let read = header-spelled sums d o udp o.trailer spells.fits spells.fields (omega (arith, size, length-append whole o.padding)) (header-sum-of sums d o spells.summed) in
    ap (reading_of sums) grouped ∙ header-passes sums _ read.0
    ∙ (λ i. udp_reading sums (read.1.from i) (read.1.to i) (read.1.carried i))
    ∙ udp-spelled sums d o.udp_sum o.padding spells.fits spells.fields.udp_sum (omega (arith, spells.fields.total)) (udp-sum-of sums d o spells.summed)

pub one-spelled : (sums : Sums) (d e : Datagram) (octets : List ℕ) → Spells sums d octets → Spells sums e octets → d ≡ e
one-spelled sums d e octets first second =
    let same : ◌≡◌ {A = Result Datagram IpBad} (Ok d) (Ok e) = sym (reading-spelled sums d octets first) ∙ reading-spelled sums e octets second in
    cc

-- ---- what is read is spelled
pub reading-spells : (sums : Sums) (d : Datagram) (octets : List ℕ) → AreOctets octets → reading_of sums octets ≡ Ok d → Spells sums d octets
reading-spells sums d octets are e =
    let header = header-ok sums octets d e in
    let from : ℕ = address_at 12 octets in
    let to : ℕ = address_at 16 octets in
    let udp : List ℕ = udp_in octets in
    let udp-are : AreOctets udp =
    AreOctets-take (total_len octets - header_len octets) (drop (header_len octets) octets) (AreOctets-drop (header_len octets) octets are) in
    let carried = udp-ok sums from to udp d header.1 in
    let u = udp-back sums from to udp udp-are carried.0 in
    let value : Datagram = value_in from to udp in
    let padding : List ℕ = drop (udp_len udp) udp in
    let o : OtherFields = fields_in octets (number_at 6 udp) padding in
    let h = header-back sums value (number_at 6 udp) padding octets are header.0 u.udp_sum refl refl
    (omega (arith, u.len, length-drop (udp_len udp) udp, carried.0.within)) in
    subst (λ (x : Datagram). Spells sums x octets) carried.1 (record {
      fits = record {
        from = u32-fits 12 octets are;
        to = u32-fits 16 octets are;
        from_port = u.ports.0;
        to_port = u.ports.1;
      };
      others = o;
      fields = h.fields;
      summed = both-sums sums value o h.summed u.summed;
      whole =
          h.whole ∙ ap (λ (x : List ℕ). header_octets value o ++ (x ++ o.trailer)) u.whole
          ∙ ap (λ (x : List ℕ). header_octets value o ++ x) (append_assoc (udp_octets value (number_at 6 udp)) padding o.trailer);
    })

-- the same of what a function answered
pub found_from : (sums : Sums) (octets : List ℕ) (answer : Result Datagram IpBad) → AreOctets octets → answer ≡ reading_of sums octets
    → IfOk answer (λ value. Spells sums value octets)
found_from sums octets (Ok value) are e = reading-spells sums value octets are (sym e)
found_from sums octets (Err bad) are e = tt

pub sums-refuse : (d : Datagram) (octets : List ℕ) → Spells Test d octets → Spells Skip d octets
sums-refuse d octets spells =
    record { fits = spells.fits; others = spells.others; fields = spells.fields; summed = tt; whole = spells.whole }
