-- The IPv4 header that stands in octets, from a spelling and back to it.
use Rattle.std.proofs.Common.{◌≡◌, ℕ, ◌+◌, ◌-◌, ◌*◌, ◌/◌, ◌%◌, ◌^◌, ◌<◌, ◌≤◌, Bool, false, cond, ltb, List, ◌∷◌, ◌++◌, length, get_or, take, drop, Result, Ok, Err, refl, sym, ap, ◌∙◌, arith}
use Rattle.std.specs.Prelude.{◌==◌, ◌||◌, not}
use Rattle.std.specs.Int.{w16, w32, to_be_bytes}
use Rattle.std.proofs.Math.Seq.{drop-cons}
use Rattle.std.proofs.lemmas.Bool.{le-ltb, ltb-false, eq-eqb, eqb-true, not-false, or_from, or_parts}
use Rattle.std.proofs.lemmas.List.{length-append, length-take, length-drop, take_at, drop_at, drop-drop, take-append-drop}
use Rattle.std.proofs.lemmas.Nat.{from_be_bytes-to_be_bytes_2, from_be_bytes-to_be_bytes_4}
use Rattle.octet_fields.proofs.OctetLemmas.{AreOctets}
use Rattle.octet_fields.proofs.NumberLemmas.{u16-back, u16-fits, u32-back}
use Rattle.octet_fields.proofs.TestLemmas.{passed}
use Rattle.ipv4_udp.specs.declared.ip.IpBad.{IpBad}
use Rattle.ipv4_udp.specs.declared.ip.IpBad.TheVariants.{Short, Version, Header, HeaderSum, Length, Fragment, Protocol}
use Rattle.ipv4_udp.specs.declared.ip.Sums.{Sums}
use Rattle.ipv4_udp.specs.declared.ip.Sums.TheVariants.{Test, Skip}
use Rattle.ipv4_udp.specs.Sum.{words_of, ones_sum, whole_sum, is_summed}
use Rattle.ipv4_udp.specs.Ip.{Datagram, OtherFields, IsDatagram, AreFields, udp_length, total_length, header_octets, udp_protocol}
use Rattle.ipv4_udp.specs.Reading.{number_at, address_at, version_of, header_len, total_len, is_fragment, is_bad_header_sum, udp_in, udp_reading, reading_of}

-- the tests of the header pass
pub record Passes (sums : Sums) (octets : List ℕ) : Type 0 where
  pub fixed : 20 ≤ length octets
  pub version : version_of octets ≡ 4
  pub least : 20 ≤ header_len octets
  pub header : header_len octets ≤ length octets
  pub summed : is_bad_header_sum sums octets ≡ false
  pub total : header_len octets ≤ total_len octets
  pub whole : total_len octets ≤ length octets
  pub fragment : number_at 6 octets % 2 ^ 14 ≡ 0
  pub protocol : get_or octets 9 0 ≡ udp_protocol

-- what UDP's tests say of what the header carries
abbrev pub carried_reading : Sums → List ℕ → Result Datagram IpBad
carried_reading sums octets = udp_reading sums (address_at 12 octets) (address_at 16 octets) (udp_in octets)

pub header-passes : (sums : Sums) (octets : List ℕ) → Passes sums octets → reading_of sums octets ≡ carried_reading sums octets
unfolding reading_of
header-passes sums octets p =
    let header : (ltb (header_len octets) 20 || ltb (length octets) (header_len octets)) ≡ false = or_from _ _ (le-ltb _ _ p.least) (le-ltb _ _ p.header) in
    let total : (ltb (total_len octets) (header_len octets) || ltb (length octets) (total_len octets)) ≡ false = or_from _ _ (le-ltb _ _ p.total) (le-ltb _ _ p.whole) in
    rw (le-ltb _ _ p.fixed, p.version, header, p.summed, total, p.fragment, p.protocol) refl

pub header-ok : (sums : Sums) (octets : List ℕ) (value : Datagram) → reading_of sums octets ≡ Ok value
    → Passes sums octets × (carried_reading sums octets ≡ Ok value)
unfolding reading_of
header-ok sums octets value e =
    let rest : Result Datagram IpBad = carried_reading sums octets in
    let known : Result Datagram IpBad = cond (not (get_or octets 9 0 == udp_protocol)) (Err Protocol) rest in
    let one-piece : Result Datagram IpBad = cond (is_fragment octets) (Err Fragment) known in
    let total : Bool = ltb (total_len octets) (header_len octets) || ltb (length octets) (total_len octets) in
    let totalled : Result Datagram IpBad = cond total (Err Length) one-piece in
    let summed : Result Datagram IpBad = cond (is_bad_header_sum sums octets) (Err HeaderSum) totalled in
    let header : Bool = ltb (header_len octets) 20 || ltb (length octets) (header_len octets) in
    let headed : Result Datagram IpBad = cond header (Err Header) summed in
    let versioned : Result Datagram IpBad = cond (not (version_of octets == 4)) (Err Version) headed in
    let one = passed (ltb (length octets) 20) Short versioned value e in
    let two = passed (not (version_of octets == 4)) Version headed value one.1 in
    let three = passed header Header summed value two.1 in
    let four = passed (is_bad_header_sum sums octets) HeaderSum totalled value three.1 in
    let five = passed total Length one-piece value four.1 in
    let six = passed (is_fragment octets) Fragment known value five.1 in
    let seven = passed (not (get_or octets 9 0 == udp_protocol)) Protocol rest value six.1 in
    let lens = or_parts (ltb (header_len octets) 20) (ltb (length octets) (header_len octets)) three.0 in
    let totals = or_parts (ltb (total_len octets) (header_len octets)) (ltb (length octets) (total_len octets)) five.0 in (
      record {
        fixed = ltb-false (length octets) 20 one.0;
        version = eqb-true (version_of octets) 4 (not-false (version_of octets == 4) two.0);
        least = ltb-false (header_len octets) 20 lens.0;
        header = ltb-false (length octets) (header_len octets) lens.1;
        summed = four.0;
        total = ltb-false (total_len octets) (header_len octets) totals.0;
        whole = ltb-false (length octets) (total_len octets) totals.1;
        fragment = eqb-true (number_at 6 octets % 2 ^ 14) 0 (not-false (number_at 6 octets % 2 ^ 14 == 0) six.0);
        protocol = eqb-true (get_or octets 9 0) udp_protocol (not-false (get_or octets 9 0 == udp_protocol) seven.0);
      },
      seven.1,
    )

-- the checksum of the header, where it counts
abbrev pub HasHeaderSum : Sums → List ℕ → Type 0
HasHeaderSum Test header = ones_sum (words_of header) ≡ whole_sum
HasHeaderSum Skip header = Unit {0}

sum-good : (sums : Sums) (octets header : List ℕ) → take (header_len octets) octets ≡ header → HasHeaderSum sums header → is_bad_header_sum sums octets ≡ false
sum-good Test octets header cut has = ap not (eq-eqb _ whole_sum (ap (λ (x : List ℕ). ones_sum (words_of x)) cut ∙ has))
sum-good Skip octets header cut has = refl

sum-back : (sums : Sums) (octets header : List ℕ) → take (header_len octets) octets ≡ header → is_bad_header_sum sums octets ≡ false → HasHeaderSum sums header
sum-back Test octets header cut good =
    ap (λ (x : List ℕ). ones_sum (words_of x)) (sym cut) ∙ eqb-true _ whole_sum (not-false (is_summed (take (header_len octets) octets)) good)
sum-back Skip octets header cut good = tt

-- ---- what is spelled is read

pub record IsCarried (d : Datagram) (octets udp : List ℕ) : Type 0 where
  pub from : address_at 12 octets ≡ d.from
  pub to : address_at 16 octets ≡ d.to
  pub carried : udp_in octets ≡ udp

pub header-spelled : (sums : Sums) (d : Datagram) (o : OtherFields) (udp trailer : List ℕ) → IsDatagram d → AreFields d o
    → length udp ≡ udp_length d + length o.padding → HasHeaderSum sums (header_octets d o)
    → Passes sums (header_octets d o ++ (udp ++ trailer)) × IsCarried d (header_octets d o ++ (udp ++ trailer)) udp
unfolding header_octets
header-spelled sums d o udp trailer fits fields long has =
    let header : List ℕ = header_octets d o in
    let all : List ℕ = header ++ (udp ++ trailer) in
    let len : header_len all ≡ 20 + length o.options = omega (arith, fields.options, fields.words) in
    let size : length header ≡ header_len all = omega (arith, len) in
    let total : total_len all ≡ total_length d o = from_be_bytes-to_be_bytes_2 (total_length d o) fields.total in
    let cut : take (header_len all) all ≡ header = take_at header (udp ++ trailer) (header_len all) size in
    let after : drop (header_len all) all ≡ udp ++ trailer = drop_at header (udp ++ trailer) (header_len all) size in
    let flags : number_at 6 all ≡ 2 ^ 14 * o.flags = from_be_bytes-to_be_bytes_2 (2 ^ 14 * o.flags) (omega (arith, fields.flags)) in
    let sizes = length-append o.options (udp ++ trailer) in
    let tails = length-append udp trailer in (
      record {
        fixed = omega arith;
        version = omega (arith, fields.options);
        least = omega (arith, len);
        header = omega (arith, len, sizes);
        summed = sum-good sums all header cut has;
        total = omega (arith, len, total);
        whole = omega (arith, len, total, sizes, tails, long);
        fragment = omega (arith, flags);
        protocol = refl;
      },
      record {
        from = from_be_bytes-to_be_bytes_4 d.from fits.from;
        to = from_be_bytes-to_be_bytes_4 d.to fits.to;
        carried = ap (take (total_len all - header_len all)) after ∙ take_at udp trailer (total_len all - header_len all) (omega (arith, len, total, long));
      },
    )

-- ---- what is read is spelled

-- the fields but those of UDP, around UDP's
abbrev pub fields_in : List ℕ → ℕ → List ℕ → OtherFields
fields_in octets udp_sum padding = record {
  service = get_or octets 1 0;
  identification = number_at 4 octets;
  flags = number_at 6 octets / 2 ^ 14;
  time_to_live = get_or octets 8 0;
  header_sum = number_at 10 octets;
  options = take (header_len octets - 20) (drop 20 octets);
  udp_sum = udp_sum;
  padding = padding;
  trailer = drop (total_len octets) octets;
}

pub record IsHeaderBack (sums : Sums) (d : Datagram) (o : OtherFields) (octets : List ℕ) : Type 0 where
  pub fields : AreFields d o
  pub whole : octets ≡ header_octets d o ++ (udp_in octets ++ o.trailer)
  pub summed : HasHeaderSum sums (header_octets d o)

pub header-back : (sums : Sums) (d : Datagram) (udp_sum : ℕ) (padding octets : List ℕ) → AreOctets octets → Passes sums octets → udp_sum < 2 ^ 16
    → d.from ≡ address_at 12 octets → d.to ≡ address_at 16 octets → udp_length d + length padding ≡ length (udp_in octets)
    → IsHeaderBack sums d (fields_in octets udp_sum padding) octets
unfolding header_octets
header-back sums d udp_sum padding (a ∷ b ∷ more) are p sum-fits from-is to-is long =
    let octets : List ℕ = a ∷ b ∷ more in
    let o : OtherFields = fields_in octets udp_sum padding in
    let header : List ℕ = header_octets d o in
    let rest : List ℕ = drop (header_len octets) octets in
    let front = are 0 in
    let options-len : length o.options ≡ header_len octets - 20 =
    omega (arith, length-take (header_len octets - 20) (drop 20 octets), length-drop 20 octets, p.header) in
    let carried : length (udp_in octets) ≡ total_len octets - header_len octets =
    omega (arith, length-take (total_len octets - header_len octets) rest, length-drop (header_len octets) octets, p.whole) in
    let total-is : total_length d o ≡ total_len octets = omega (arith, options-len, carried, long, p.least, p.total) in
    let past : 20 + (header_len octets - 20) ≡ header_len octets = omega (arith, p.least) in
    let options-is : drop 20 octets ≡ o.options ++ rest =
    sym (take-append-drop (header_len octets - 20) (drop 20 octets))
    ∙ ap (λ (x : List ℕ). o.options ++ x) (drop-drop (header_len octets - 20) 20 octets ∙ ap (λ (n : ℕ). drop n octets) past) in
    let end : header_len octets + (total_len octets - header_len octets) ≡ total_len octets = omega (arith, p.total) in
    let rest-is : rest ≡ udp_in octets ++ o.trailer =
    sym (take-append-drop (total_len octets - header_len octets) rest)
    ∙ ap (λ (x : List ℕ). udp_in octets ++ x) (drop-drop (total_len octets - header_len octets) (header_len octets) octets ∙ ap (λ (n : ℕ). drop n octets) end) in
    let first-is : a ≡ 64 + (5 + length o.options / 4) = omega (arith, front, p.version, p.least, options-len) in
    let flags-is : number_at 6 octets ≡ 2 ^ 14 * o.flags = omega (arith, p.fragment) in
    let eight : drop 8 octets ≡ get_or octets 8 0 ∷ get_or octets 9 0 ∷ drop 10 octets =
    drop-cons octets 8 0 (omega (arith, p.fixed)) ∙ ap (λ (x : List ℕ). get_or octets 8 0 ∷ x) (drop-cons octets 9 0 (omega (arith, p.fixed))) in
    let twelve : drop 12 octets ≡ to_be_bytes w32 d.from ++ (to_be_bytes w32 d.to ++ (o.options ++ rest)) =
    sym (u32-back 12 octets are (omega (arith, p.fixed))) ∙ (λ i. to_be_bytes w32 (sym from-is i) ++ drop 16 octets)
    ∙ ap (λ (x : List ℕ). to_be_bytes w32 d.from ++ x) (sym (u32-back 16 octets are (omega (arith, p.fixed))) ∙ (λ i. to_be_bytes w32 (sym to-is i) ++ options-is i)) in
    let ten : drop 10 octets ≡ to_be_bytes w16 o.header_sum ++ drop 12 octets = sym (u16-back 10 octets are (omega (arith, p.fixed))) in
    let six : drop 6 octets ≡ to_be_bytes w16 (2 ^ 14 * o.flags) ++ drop 8 octets =
    sym (u16-back 6 octets are (omega (arith, p.fixed))) ∙ ap (λ (n : ℕ). to_be_bytes w16 n ++ drop 8 octets) flags-is in
    let four : drop 4 octets ≡ to_be_bytes w16 o.identification ++ drop 6 octets = sym (u16-back 4 octets are (omega (arith, p.fixed))) in
    let two : drop 2 octets ≡ to_be_bytes w16 (total_length d o) ++ drop 4 octets =
    sym (u16-back 2 octets are (omega (arith, p.fixed))) ∙ ap (λ (n : ℕ). to_be_bytes w16 n ++ drop 4 octets) (sym total-is) in
    let spelled : octets ≡ header ++ rest =
    (λ i. first-is i ∷ b ∷ two i)
    ∙ ap (λ (x : List ℕ). (64 + (5 + length o.options / 4)) ∷ b ∷ (to_be_bytes w16 (total_length d o) ++ x)) (four
    ∙ ap (λ (x : List ℕ). to_be_bytes w16 o.identification ++ x) (six
    ∙ ap (λ (x : List ℕ). to_be_bytes w16 (2 ^ 14 * o.flags) ++ x) (eight
    ∙ (λ i. o.time_to_live ∷ p.protocol i ∷ (ten ∙ ap (λ (x : List ℕ). to_be_bytes w16 o.header_sum ++ x) twelve) i)))) in
    let size : length header ≡ header_len octets = omega (arith, options-len, p.least) in
    let cut : take (header_len octets) octets ≡ header = ap (take (header_len octets)) spelled ∙ take_at header rest (header_len octets) size in
    record {
      fields = record {
        service = are 1;
        identification = u16-fits 4 octets are;
        flags = omega (arith, u16-fits 6 octets are);
        time_to_live = are 8;
        header_sum = u16-fits 10 octets are;
        options = omega (arith, options-len);
        words = omega (arith, options-len, p.least);
        udp_sum = sum-fits;
        total = omega (arith, total-is, u16-fits 2 octets are);
      };
      whole = spelled ∙ ap (λ (x : List ℕ). header ++ x) rest-is;
      summed = sum-back sums octets header cut p.summed;
    }
header-back sums d udp_sum padding octets are p sum-fits from-is to-is long = absurd (omega (arith, p.fixed))
