-- The UDP datagram that stands in octets, from a spelling and back to it.
use Rattle.std.proofs.Common.{◌≡◌, ℕ, ◌+◌, ◌-◌, ◌^◌, ◌<◌, ◌≤◌, false, cond, ltb, List, ◌++◌, length, take, drop, Result, Ok, Err, refl, sym, ap, ◌∙◌, subst, arith, inl, inr}
use Rattle.std.specs.Prelude.{◌⊎◌, ◌==◌, ◌||◌, not}
use Rattle.std.specs.Int.{w16, to_be_bytes}
use Rattle.std.proofs.lemmas.Bool.{le-ltb, ltb-false, eq-eqb, eqb-true, not-false, or_from, or_parts, and_left, and_right, and_cases}
use Rattle.std.proofs.lemmas.List.{length-append, length-take, length-drop, take_at, drop-drop, take-append-drop}
use Rattle.std.proofs.lemmas.Nat.{from_be_bytes-to_be_bytes_2}
use Rattle.octet_fields.proofs.OctetLemmas.{AreOctets}
use Rattle.octet_fields.proofs.NumberLemmas.{u16-back, u16-fits}
use Rattle.octet_fields.proofs.TestLemmas.{passed}
use Rattle.ipv4_udp.specs.declared.ip.IpBad.{IpBad}
use Rattle.ipv4_udp.specs.declared.ip.IpBad.TheVariants.{UdpShort, UdpLength, UdpSum}
use Rattle.ipv4_udp.specs.declared.ip.Sums.{Sums}
use Rattle.ipv4_udp.specs.declared.ip.Sums.TheVariants.{Test, Skip}
use Rattle.ipv4_udp.specs.Sum.{words_of, ones_sum, whole_sum, is_summed}
use Rattle.ipv4_udp.specs.Ip.{Datagram, IsDatagram, udp_length, udp_octets, pseudo_header}
use Rattle.ipv4_udp.specs.Reading.{number_at, udp_len, is_bad_udp_sum, value_in, udp_reading}

-- the tests of UDP pass
pub record UdpPasses (sums : Sums) (from to : ℕ) (udp : List ℕ) : Type 0 where
  pub short : 8 ≤ length udp
  pub least : 8 ≤ udp_len udp
  pub within : udp_len udp ≤ length udp
  pub summed : is_bad_udp_sum sums from to udp ≡ false

pub udp-passes : (sums : Sums) (from to : ℕ) (udp : List ℕ) → UdpPasses sums from to udp → udp_reading sums from to udp ≡ Ok (value_in from to udp)
unfolding udp_reading
udp-passes sums from to udp p =
    let len : (ltb (udp_len udp) 8 || ltb (length udp) (udp_len udp)) ≡ false = or_from _ _ (le-ltb _ _ p.least) (le-ltb _ _ p.within) in
    rw (le-ltb _ _ p.short, len, p.summed) refl

pub udp-ok : (sums : Sums) (from to : ℕ) (udp : List ℕ) (value : Datagram) → udp_reading sums from to udp ≡ Ok value
    → UdpPasses sums from to udp × (value_in from to udp ≡ value)
unfolding udp_reading
udp-ok sums from to udp value e =
    let good : Result Datagram IpBad = cond (is_bad_udp_sum sums from to udp) (Err UdpSum) (Ok (value_in from to udp)) in
    let long : Result Datagram IpBad = cond (ltb (udp_len udp) 8 || ltb (length udp) (udp_len udp)) (Err UdpLength) good in
    let one = passed (ltb (length udp) 8) UdpShort long value e in
    let two = passed (ltb (udp_len udp) 8 || ltb (length udp) (udp_len udp)) UdpLength good value one.1 in
    let three = passed (is_bad_udp_sum sums from to udp) UdpSum (Ok (value_in from to udp)) value two.1 in
    let lens = or_parts (ltb (udp_len udp) 8) (ltb (length udp) (udp_len udp)) two.0 in (
      record {
        short = ltb-false (length udp) 8 one.0;
        least = ltb-false (udp_len udp) 8 lens.0;
        within = ltb-false (length udp) (udp_len udp) lens.1;
        summed = three.0;
      },
      cc,
    )

-- the checksum of UDP, where it counts
abbrev pub HasUdpSum : Sums → ℕ → ℕ → ℕ → ℕ → List ℕ → Type 0
HasUdpSum Test from to len udp_sum udp = (udp_sum ≡ 0) ⊎ (ones_sum (words_of (pseudo_header from to len ++ udp)) ≡ whole_sum)
HasUdpSum Skip from to len udp_sum udp = Unit {0}

-- what stands behind the pseudo-header of the whole
fields-of : (from to len : ℕ) (udp whole : List ℕ) → take (udp_len udp) udp ≡ whole → len ≡ udp_len udp
    → ones_sum (words_of (pseudo_header from to (udp_len udp) ++ take (udp_len udp) udp)) ≡ ones_sum (words_of (pseudo_header from to len ++ whole))
fields-of from to len udp whole cut is = λ i. ones_sum (words_of (pseudo_header from to (sym is i) ++ cut i))

pub sum-good : (sums : Sums) (from to len : ℕ) (udp whole : List ℕ) → take (udp_len udp) udp ≡ whole → len ≡ udp_len udp
    → HasUdpSum sums from to len (number_at 6 udp) whole → is_bad_udp_sum sums from to udp ≡ false
sum-good Test from to len udp whole cut is (inl zero) = and_left (not (number_at 6 udp == 0)) _ (ap not (eq-eqb (number_at 6 udp) 0 zero))
sum-good Test from to len udp whole cut is (inr full) =
    and_right (not (number_at 6 udp == 0)) _ (ap not (eq-eqb _ whole_sum (fields-of from to len udp whole cut is ∙ full)))
sum-good Skip from to len udp whole cut is has = refl

pub sum-back : (sums : Sums) (from to len : ℕ) (udp whole : List ℕ) → take (udp_len udp) udp ≡ whole → len ≡ udp_len udp
    → is_bad_udp_sum sums from to udp ≡ false → HasUdpSum sums from to len (number_at 6 udp) whole
sum-back Test from to len udp whole cut is good =
    elim (and_cases (not (number_at 6 udp == 0)) (not (is_summed (pseudo_header from to (udp_len udp) ++ take (udp_len udp) udp))) good) [
      | inl none ↦ inl (eqb-true (number_at 6 udp) 0 (not-false (number_at 6 udp == 0) none))
      | inr some ↦ inr (sym (fields-of from to len udp whole cut is) ∙ eqb-true _ whole_sum (not-false (is_summed (pseudo_header from to (udp_len udp) ++ take (udp_len udp) udp)) some))
    ]
sum-back Skip from to len udp whole cut is good = tt

-- ---- what is spelled is read

pub udp-spelled : (sums : Sums) (d : Datagram) (udp_sum : ℕ) (padding : List ℕ) → IsDatagram d → udp_sum < 2 ^ 16 → udp_length d < 2 ^ 16
    → HasUdpSum sums d.from d.to (udp_length d) udp_sum (udp_octets d udp_sum) → udp_reading sums d.from d.to (udp_octets d udp_sum ++ padding) ≡ Ok d
unfolding udp_octets
udp-spelled sums d udp_sum padding fits sum-fits few has =
    let whole : List ℕ = udp_octets d udp_sum in
    let udp : List ℕ = whole ++ padding in
    let size = length-append d.payload padding in
    let len : udp_len udp ≡ udp_length d = from_be_bytes-to_be_bytes_2 (udp_length d) few in
    let cut : take (udp_len udp) udp ≡ whole = take_at whole padding (udp_len udp) (omega (arith, len)) in
    let sum-is : number_at 6 udp ≡ udp_sum = from_be_bytes-to_be_bytes_2 udp_sum sum-fits in
    let from-is : number_at 0 udp ≡ d.from_port = from_be_bytes-to_be_bytes_2 d.from_port fits.from_port in
    let to-is : number_at 2 udp ≡ d.to_port = from_be_bytes-to_be_bytes_2 d.to_port fits.to_port in
    let payload-is : take (udp_len udp - 8) (d.payload ++ padding) ≡ d.payload = take_at d.payload padding (udp_len udp - 8) (omega (arith, len)) in
    udp-passes sums d.from d.to udp (record {
      short = omega arith;
      least = omega (arith, len);
      within = omega (arith, len, size);
      summed = sum-good sums d.from d.to (udp_length d) udp whole cut (sym len) (subst (λ (n : ℕ). HasUdpSum sums d.from d.to (udp_length d) n whole) (sym sum-is) has);
    })
    ∙ (λ i. Ok (record { from = d.from; to = d.to; from_port = from-is i; to_port = to-is i; payload = payload-is i }))

-- ---- what is read is spelled

pub record IsUdpBack (sums : Sums) (from to : ℕ) (udp : List ℕ) : Type 0 where
  pub ports : ((value_in from to udp).from_port < 2 ^ 16) × ((value_in from to udp).to_port < 2 ^ 16)
  pub udp_sum : number_at 6 udp < 2 ^ 16
  pub len : udp_length (value_in from to udp) ≡ udp_len udp
  pub few : udp_len udp < 2 ^ 16
  pub whole : udp ≡ udp_octets (value_in from to udp) (number_at 6 udp) ++ drop (udp_len udp) udp
  pub summed : HasUdpSum sums from to (udp_length (value_in from to udp)) (number_at 6 udp) (udp_octets (value_in from to udp) (number_at 6 udp))

pub udp-back : (sums : Sums) (from to : ℕ) (udp : List ℕ) → AreOctets udp → UdpPasses sums from to udp → IsUdpBack sums from to udp
unfolding udp_octets
udp-back sums from to udp are p =
    let d : Datagram = value_in from to udp in
    let rest : List ℕ = drop (udp_len udp) udp in
    let count : length d.payload ≡ udp_len udp - 8 = omega (arith, length-take (udp_len udp - 8) (drop 8 udp), length-drop 8 udp, p.within) in
    let len : udp_length d ≡ udp_len udp = omega (arith, count, p.least) in
    let place : 8 + (udp_len udp - 8) ≡ udp_len udp = omega (arith, p.least) in
    let tail-is : drop 8 udp ≡ d.payload ++ rest =
    sym (take-append-drop (udp_len udp - 8) (drop 8 udp))
    ∙ ap (λ (x : List ℕ). d.payload ++ x) (drop-drop (udp_len udp - 8) 8 udp ∙ ap (λ (n : ℕ). drop n udp) place) in
    let a : List ℕ = to_be_bytes w16 d.from_port in
    let b : List ℕ = to_be_bytes w16 d.to_port in
    let c : List ℕ = to_be_bytes w16 (udp_len udp) in
    let s : List ℕ = to_be_bytes w16 (number_at 6 udp) in
    let whole-is : udp ≡ a ++ (b ++ (c ++ (s ++ (d.payload ++ rest)))) =
    sym (u16-back 0 udp are (omega (arith, p.short)))
    ∙ ap (λ (x : List ℕ). a ++ x) (sym (u16-back 2 udp are (omega (arith, p.short)))
    ∙ ap (λ (x : List ℕ). b ++ x) (sym (u16-back 4 udp are (omega (arith, p.short)))
    ∙ ap (λ (x : List ℕ). c ++ x) (sym (u16-back 6 udp are (omega (arith, p.short))) ∙ ap (λ (x : List ℕ). s ++ x) tail-is))) in
    let spelled : udp ≡ udp_octets d (number_at 6 udp) ++ rest = whole-is ∙ (λ i. a ++ (b ++ (to_be_bytes w16 (sym len i) ++ (s ++ (d.payload ++ rest))))) in
    let size : length (udp_octets d (number_at 6 udp)) ≡ udp_len udp = omega (arith, len) in
    let cut : take (udp_len udp) udp ≡ udp_octets d (number_at 6 udp) =
    ap (take (udp_len udp)) spelled ∙ take_at (udp_octets d (number_at 6 udp)) rest (udp_len udp) size in
    record {
      ports = (u16-fits 0 udp are, u16-fits 2 udp are);
      udp_sum = u16-fits 6 udp are;
      len = len;
      few = u16-fits 4 udp are;
      whole = spelled;
      summed = sum-back sums from to (udp_length d) udp (udp_octets d (number_at 6 udp)) cut len p.summed;
    }
