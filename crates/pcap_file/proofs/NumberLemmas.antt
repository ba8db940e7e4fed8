-- Numbers of either byte order, and the parts of headers and heads, from octets back to them.
use Rattle.std.proofs.Common.{◌≡◌, ℕ, ◌+◌, ◌^◌, ◌<◌, ◌≤◌, true, List, [], ◌∷◌, ◌++◌, length, take, drop, Some, refl, sym, ap, ◌∙◌, append-nil, arith, inl, inr}
use Rattle.std.specs.Prelude.{◌==◌, ◌⊎◌}
use Rattle.std.specs.declared.option.Option.{Option}
use Rattle.std.specs.Int.{w16, w32, from_be_bytes, to_be_bytes, from_le_bytes}
use Rattle.std.proofs.lemmas.Bool.{cases_Bool, eqb-true}
use Rattle.std.proofs.lemmas.List.{take-append-drop, drop-drop, length-take, length-drop}
use Rattle.std.proofs.lemmas.Nat.{be_bytes_4, le_bytes_2, le_bytes_4, from_be_bytes-to_be_bytes_4, from_le_bytes-to_le_bytes_4}
use Rattle.octet_fields.proofs.OctetLemmas.{AreOctets, AreOctets-drop, AreOctets-take}
use Rattle.octet_fields.proofs.NumberLemmas.{u16-back, u32-back, u32-fits}
use Rattle.pcap_file.specs.declared.format.ByteOrder.{ByteOrder}
use Rattle.pcap_file.specs.declared.format.ByteOrder.TheVariants.{Big, Little}
use Rattle.pcap_file.specs.declared.format.Fraction.{Fraction}
use Rattle.pcap_file.specs.declared.format.Fraction.TheVariants.{Micros, Nanos}
use Rattle.pcap_file.specs.declared.format.Format.{Format}
use Rattle.pcap_file.specs.Pcap.{spelled_16, spelled_32, magic_of, is_link_type, IsHeader, head_spelling}
use Rattle.pcap_file.specs.Tests.{number_16_at, number_32_at, kind_of, link_type_in, kept_said}

part-behind : (size at : ℕ) (octets : List ℕ) → take size (drop at octets) ++ drop (at + size) octets ≡ drop at octets
part-behind size at octets =
    ap (λ (x : List ℕ). take size (drop at octets) ++ x) (sym (drop-drop size at octets)) ∙ take-append-drop size (drop at octets)

part-len : (size at : ℕ) (octets : List ℕ) → at + size ≤ length octets → length (take size (drop at octets)) ≡ size
part-len size at octets long = omega (arith, length-take size (drop at octets), length-drop at octets, long)

pub back-16 : (order : ByteOrder) (at : ℕ) (octets : List ℕ) → AreOctets octets → at + 2 ≤ length octets
    → spelled_16 order (number_16_at order at octets) ++ drop (at + 2) octets ≡ drop at octets
back-16 Big at octets are long = u16-back at octets are long
back-16 Little at octets are long =
    let part : List ℕ = take 2 (drop at octets) in
    let fits = AreOctets-take 2 (drop at octets) (AreOctets-drop at octets are) in
    ap (λ (x : List ℕ). x ++ drop (at + 2) octets) (le_bytes_2 part (from_le_bytes w16 part) (part-len 2 at octets long) fits refl)
    ∙ part-behind 2 at octets

pub back-32 : (order : ByteOrder) (at : ℕ) (octets : List ℕ) → AreOctets octets → at + 4 ≤ length octets
    → spelled_32 order (number_32_at order at octets) ++ drop (at + 4) octets ≡ drop at octets
back-32 Big at octets are long = u32-back at octets are long
back-32 Little at octets are long =
    let part : List ℕ = take 4 (drop at octets) in
    let fits = AreOctets-take 4 (drop at octets) (AreOctets-drop at octets are) in
    ap (λ (x : List ℕ). x ++ drop (at + 4) octets) (le_bytes_4 part (from_le_bytes w32 part) (part-len 4 at octets long) fits refl)
    ∙ part-behind 4 at octets

pub fits-32 : (order : ByteOrder) (at : ℕ) (octets : List ℕ) → AreOctets octets → number_32_at order at octets < 2 ^ 32
fits-32 Big at octets are = u32-fits at octets are
fits-32 Little at octets are =
    let fits = AreOctets-take 4 (drop at octets) (AreOctets-drop at octets are) in
    omega (arith, fits 0, fits 1, fits 2, fits 3)

pub empty-is : (octets : List ℕ) → length octets ≡ 0 → octets ≡ []
empty-is [] len = refl
empty-is (x ∷ octets) len = absurd (omega (arith, len))

nothing-behind : (n : ℕ) (octets : List ℕ) → length octets ≡ n → drop n octets ≡ []
nothing-behind n octets len = empty-is (drop n octets) (omega (arith, length-drop n octets, len))

-- the last number of octets
last-32 : (order : ByteOrder) (at : ℕ) (octets : List ℕ) → AreOctets octets → length octets ≡ at + 4
    → spelled_32 order (number_32_at order at octets) ≡ drop at octets
last-32 order at octets are len =
    sym (append-nil (spelled_32 order (number_32_at order at octets)))
    ∙ ap (λ (x : List ℕ). spelled_32 order (number_32_at order at octets) ++ x) (sym (nothing-behind (at + 4) octets len))
    ∙ back-32 order at octets are (omega (arith, len))

-- a head's four numbers spell its octets
pub head-back : (order : ByteOrder) (octets : List ℕ) → AreOctets octets → length octets ≡ 16
    → head_spelling order (number_32_at order 0 octets) (number_32_at order 4 octets) (number_32_at order 8 octets) (number_32_at order 12 octets) ≡ octets
head-back order octets are len =
    ap (λ (x : List ℕ). spelled_32 order (number_32_at order 0 octets) ++ x)
    (ap (λ (x : List ℕ). spelled_32 order (number_32_at order 4 octets) ++ x)
    (ap (λ (x : List ℕ). spelled_32 order (number_32_at order 8 octets) ++ x) (last-32 order 12 octets are len)
    ∙ back-32 order 8 octets are (omega (arith, len)))
    ∙ back-32 order 4 octets are (omega (arith, len)))
    ∙ back-32 order 0 octets are (omega (arith, len))

-- ---- a file's header
pub same-kind : (a c : ByteOrder) (b d : Fraction) → ◌≡◌ {A = Option (ByteOrder × Fraction)} (Some (a, b)) (Some (c, d)) → (a ≡ c) × (b ≡ d)
same-kind a c b d e =
    let s : ◌≡◌ {A = ByteOrder × Fraction} (a, b) (c, d) = cc in
    (ap (λ (p : ByteOrder × Fraction). p.0) s, ap (λ (p : ByteOrder × Fraction). p.1) s)

-- the magic number's octets, by what they tell
pub kind-spelled : (word : ℕ) (order : ByteOrder) (fraction : Fraction) → kind_of word ≡ Some (order, fraction)
    → to_be_bytes w32 word ≡ spelled_32 order (magic_of fraction)
kind-spelled word order fraction e = elim (cases_Bool (word == 0xA1B2C3D4)) [
  | inl t ↦
      let s = same-kind Big order Micros fraction (rw t at e) in
      ap (to_be_bytes w32) (eqb-true word 0xA1B2C3D4 t) ∙ (λ i. spelled_32 (s.0 i) (magic_of (s.1 i)))
  | inr f ↦ elim (cases_Bool (word == 0xD4C3B2A1)) [
    | inl t ↦
        let s = same-kind Little order Micros fraction (rw (f, t) at e) in
        ap (to_be_bytes w32) (eqb-true word 0xD4C3B2A1 t) ∙ (λ i. spelled_32 (s.0 i) (magic_of (s.1 i)))
    | inr g ↦ elim (cases_Bool (word == 0xA1B23C4D)) [
      | inl t ↦
          let s = same-kind Big order Nanos fraction (rw (f, g, t) at e) in
          ap (to_be_bytes w32) (eqb-true word 0xA1B23C4D t) ∙ (λ i. spelled_32 (s.0 i) (magic_of (s.1 i)))
      | inr h ↦ elim (cases_Bool (word == 0x4D3CB2A1)) [
        | inl t ↦
            let s = same-kind Little order Nanos fraction (rw (f, g, h, t) at e) in
            ap (to_be_bytes w32) (eqb-true word 0x4D3CB2A1 t) ∙ (λ i. spelled_32 (s.0 i) (magic_of (s.1 i)))
        | inr k ↦ let no = rw (f, g, h, k) at e in absurd cc
      ]
    ]
  ]
]

pub header-back : (format : Format) (octets : List ℕ) → AreOctets octets → length octets ≡ 24
    → kind_of (from_be_bytes w32 (take 4 octets)) ≡ Some (format.order, format.fraction) → number_16_at format.order 4 octets ≡ 2
    → number_16_at format.order 6 octets ≡ 4 → link_type_in format.order octets ≡ format.link_type → is_link_type format.link_type ≡ true
    → IsHeader format octets
header-back format octets are len kind major minor link known =
    let order : ByteOrder = format.order in
    let magic : take 4 octets ≡ spelled_32 order (magic_of format.fraction) =
    sym (be_bytes_4 (take 4 octets) (from_be_bytes w32 (take 4 octets)) (omega (arith, length-take 4 octets, len)) (AreOctets-take 4 octets are) refl)
    ∙ kind-spelled (from_be_bytes w32 (take 4 octets)) order format.fraction kind in
    let six : drop 6 octets ≡ spelled_16 order 4 ++ drop 8 octets =
    sym (back-16 order 6 octets are (omega (arith, len))) ∙ ap (λ (n : ℕ). spelled_16 order n ++ drop 8 octets) minor in
    let four : drop 4 octets ≡ spelled_16 order 2 ++ drop 6 octets =
    sym (back-16 order 4 octets are (omega (arith, len))) ∙ ap (λ (n : ℕ). spelled_16 order n ++ drop 6 octets) major in
    let eight : drop 8 octets ≡ take 12 (drop 8 octets) ++ spelled_32 order (number_32_at order 20 octets) =
    sym (part-behind 12 8 octets) ∙ ap (λ (x : List ℕ). take 12 (drop 8 octets) ++ x) (sym (last-32 order 20 octets are len)) in
    record {
      unread = take 12 (drop 8 octets);
      unread_len = part-len 12 8 octets (omega (arith, len));
      link_word = number_32_at order 20 octets;
      link_fits = fits-32 order 20 octets are;
      link_type = link;
      known = known;
      whole =
          sym (take-append-drop 4 octets)
          ∙ (λ i. magic i ++ (four ∙ ap (λ (x : List ℕ). spelled_16 order 2 ++ x) (six ∙ ap (λ (x : List ℕ). spelled_16 order 4 ++ x) eight)) i);
    }

-- ---- a head before what follows it
pub head-len : (order : ByteOrder) (seconds fraction len first_len : ℕ) → length (head_spelling order seconds fraction len first_len) ≡ 16
head-len Big seconds fraction len first_len = refl
head-len Little seconds fraction len first_len = refl

pub kept-is : (order : ByteOrder) (seconds fraction len first_len : ℕ) (rest : List ℕ) → len < 2 ^ 32
    → kept_said order (head_spelling order seconds fraction len first_len ++ rest) ≡ len
kept-is Big seconds fraction len first_len rest lt = from_be_bytes-to_be_bytes_4 len lt
kept-is Little seconds fraction len first_len rest lt = from_le_bytes-to_le_bytes_4 len lt

pub known-link : (link_type : ℕ) → (link_type ≡ 1) ⊎ (link_type ≡ 101) → is_link_type link_type ≡ true
known-link link_type (inl e) = ap is_link_type e
known-link link_type (inr e) = ap is_link_type e
