-- The header that stands in octets, from a spelling and back to it.
use Rattle.std.proofs.Common.{◌≡◌, ℕ, ◌+◌, ◌*◌, ◌/◌, ◌%◌, ◌^◌, ◌<◌, ◌≤◌, Bool, true, false, cond, ltb, List, ◌++◌, length, drop, Option, Some, None, Result, Ok, Err, refl, sym, ap, subst, ◌∙◌, append_assoc, arith, inl, inr}
use Rattle.std.specs.Prelude.{IfSome, IfOk, IsSome, is_some, ◌==◌, ◌&&◌, ◌||◌, not}
use Rattle.std.specs.Int.{w16, from_be_bytes, to_be_bytes, from_bool}
use Rattle.std.proofs.lemmas.Bool.{eq-eqb, le-ltb, ltb-false, eqb-true, not-false, or_parts, or_from, or_left, or_right, or_cases, false≢true}
use Rattle.std.proofs.lemmas.Nat.{from_be_bytes-to_be_bytes_2, from_be_bytes-to_be_bytes_4}
use Rattle.gre_tunnel.specs.declared.gre.Gre.{Gre}
use Rattle.gre_tunnel.specs.declared.gre.GreBad.{GreBad}
use Rattle.gre_tunnel.specs.declared.gre.GreBad.TheVariants.{Short, Version, Checksum, Reserved, KeyedNoSequence, Protocol}
use Rattle.gre_tunnel.specs.Gre.{Header, IsHeader, IsProtocol, flags_word, optional_word, spelling, Spells}
use Rattle.gre_tunnel.specs.Reading.{flags_of, protocol_of, is_set, has_key, has_sequence, has_reserved, header_len, number_at, gre_in, is_known_protocol, reading_of, value_of}
use Rattle.gre_tunnel.specs.declared.tunnel.Tunnel.{Tunnel}
use Rattle.gre_tunnel.specs.declared.tunnel.Tunnel.TheVariants.{Own, Librist}
use Rattle.gre_tunnel.specs.Writing.{header_with, ignored_with}
use Rattle.octet_fields.proofs.OctetLemmas.{AreOctets}
use Rattle.octet_fields.proofs.NumberLemmas.{u16-back, u16-fits, u32-back, u32-fits}
use Rattle.octet_fields.proofs.TestLemmas.{passed}
use Rattle.gre_tunnel.proofs.FieldLemmas.{Says, word-says, word-back}

-- the tests pass, at these flags
pub record Passes (octets : List ℕ) (keyed numbered : Bool) : Type 0 where
  pub says : Says (flags_of octets) keyed numbered
  pub paired : (keyed && not numbered) ≡ false
  pub long : 4 + 4 * from_bool keyed + 4 * from_bool numbered ≤ length octets
  pub known : is_known_protocol (protocol_of octets) ≡ true

-- the header that stands in the octets at these flags
abbrev pub header_at : List ℕ → Bool → Bool → Header
header_at octets keyed numbered = record {
  key = number_at keyed 4 octets;
  sequence = number_at numbered (4 + 4 * from_bool keyed) octets;
  protocol = protocol_of octets;
}

is_some-number : (flag : Bool) (at : ℕ) (octets : List ℕ) → is_some (number_at flag at octets) ≡ flag
is_some-number true at octets = refl
is_some-number false at octets = refl

-- what stands there is the value of the header
gre_in-value : (octets : List ℕ) (keyed numbered : Bool) → has_key octets ≡ keyed → has_sequence octets ≡ numbered
    → gre_in octets ≡ value_of (header_at octets keyed numbered)
gre_in-value octets keyed numbered key sequence =
    let at : gre_in octets ≡ record { key = number_at keyed 4 octets; sequence = number_at numbered (4 + 4 * from_bool keyed) octets; protocol = protocol_of octets; rest = 4 + 4 * from_bool keyed + 4 * from_bool numbered } =
    λ i. record { key = number_at (key i) 4 octets; sequence = number_at (sequence i) (4 + 4 * from_bool (key i)) octets; protocol = protocol_of octets; rest = 4 + 4 * from_bool (key i) + 4 * from_bool (sequence i) } in
    at ∙ (λ i. record {
      key = number_at keyed 4 octets;
      sequence = number_at numbered (4 + 4 * from_bool keyed) octets;
      protocol = protocol_of octets;
      rest = 4 + 4 * from_bool (sym (is_some-number keyed 4 octets) i) + 4 * from_bool (sym (is_some-number numbered (4 + 4 * from_bool keyed) octets) i);
    })

pub reading-passes : (octets : List ℕ) (keyed numbered : Bool) → Passes octets keyed numbered
    → reading_of octets ≡ Ok (value_of (header_at octets keyed numbered))
unfolding reading_of
reading-passes octets keyed numbered p =
    let fixed : ltb (length octets) 4 ≡ false = le-ltb (length octets) 4 (omega (arith, p.long)) in
    let reserved : has_reserved octets ≡ false = or_from _ _ p.says.first (or_from _ _ p.says.second p.says.third) in
    let paired : (has_key octets && not (has_sequence octets)) ≡ false = (λ i. p.says.key i && not (p.says.sequence i)) ∙ p.paired in
    let len : header_len octets ≡ 4 + 4 * from_bool keyed + 4 * from_bool numbered = λ i. 4 + 4 * from_bool (p.says.key i) + 4 * from_bool (p.says.sequence i) in
    let long : ltb (length octets) (header_len octets) ≡ false = le-ltb (length octets) (header_len octets) (omega (arith, p.long, len)) in
    rw (fixed, p.says.version, p.says.checksum, reserved, paired, long, p.known) (ap Ok (gre_in-value octets keyed numbered p.says.key p.says.sequence))

-- ---- what is spelled is read
known-protocol : (protocol : ℕ) → IsProtocol protocol
    → (is_known_protocol protocol ≡ true) × (protocol < 2 ^ 16)
known-protocol protocol (inl e) = (or_left _ _ (eq-eqb _ _ e), omega (arith, e))
known-protocol protocol (inr (inl e)) = (or_right _ _ (or_left _ _ (eq-eqb _ _ e)), omega (arith, e))
known-protocol protocol (inr (inr e)) = (or_right _ _ (or_right _ _ (eq-eqb _ _ e)), omega (arith, e))

-- octets with these flags, this protocol, and room for what the flags announce pass the tests
passes-with : (keyed numbered : Bool) (protocol ignored : ℕ) (octets : List ℕ) → ignored < 128
    → IsProtocol protocol → (keyed && not numbered) ≡ false
    → flags_of octets ≡ from_be_bytes w16 (to_be_bytes w16 (2 ^ 13 * from_bool keyed + 2 ^ 12 * from_bool numbered + 8 * ignored))
    → protocol_of octets ≡ protocol → 4 + 4 * from_bool keyed + 4 * from_bool numbered ≤ length octets → Passes octets keyed numbered
passes-with keyed numbered protocol ignored octets few known paired flags kind long =
    let says = word-says keyed numbered ignored few in
    let word = flags ∙ from_be_bytes-to_be_bytes_2 _ says.below in
    record {
      says = subst (λ (w : ℕ). Says w keyed numbered) (sym word) says;
      paired = paired;
      long = long;
      known = ap is_known_protocol kind ∙ (known-protocol protocol known).0;
    }

-- the octets pass, and the header stands in them
record Holds (octets : List ℕ) (header : Header) : Type 0 where
  passes : Passes octets (is_some header.key) (is_some header.sequence)
  value : header_at octets (is_some header.key) (is_some header.sequence) ≡ header

holds : (key sequence : Option ℕ) (protocol ignored : ℕ) (rest : List ℕ) → IsHeader (header_with key sequence protocol) → ignored < 128
    → Holds (spelling (header_with key sequence protocol) ignored ++ rest) (header_with key sequence protocol)
holds None None protocol ignored rest fits few =
    let kind = from_be_bytes-to_be_bytes_2 protocol (known-protocol protocol fits.protocol).1 in
    record {
      passes = passes-with false false protocol ignored _ few fits.protocol refl refl kind (omega arith);
      value = λ i. header_with None None (kind i);
    }
holds None (Some sequence) protocol ignored rest fits few =
    let kind = from_be_bytes-to_be_bytes_2 protocol (known-protocol protocol fits.protocol).1 in
    record {
      passes = passes-with false true protocol ignored _ few fits.protocol refl refl kind (omega arith);
      value = λ i. header_with None (Some (from_be_bytes-to_be_bytes_4 sequence fits.sequence i)) (kind i);
    }
holds (Some key) None protocol ignored rest fits few = absurd (false≢true (fits.paired refl))
holds (Some key) (Some sequence) protocol ignored rest fits few =
    let kind = from_be_bytes-to_be_bytes_2 protocol (known-protocol protocol fits.protocol).1 in
    record {
      passes = passes-with true true protocol ignored _ few fits.protocol refl refl kind (omega arith);
      value = λ i. header_with (Some (from_be_bytes-to_be_bytes_4 key fits.key i)) (Some (from_be_bytes-to_be_bytes_4 sequence fits.sequence i)) (kind i);
    }

pub reading-spelled : (header : Header) (rest octets : List ℕ) → Spells header rest octets → reading_of octets ≡ Ok (value_of header)
reading-spelled header rest octets spells =
    let h = holds header.key header.sequence header.protocol spells.ignored rest spells.fits spells.ignored_fits in
    ap reading_of spells.whole ∙ reading-passes (spelling header spells.ignored ++ rest) (is_some header.key) (is_some header.sequence) h.passes
    ∙ ap (λ (x : Header). Ok (value_of x)) h.value

-- octets begin with one header at most, and it says what follows
rest-of : (key sequence : Option ℕ) (protocol ignored : ℕ) (rest : List ℕ) → (IsSome key → IsSome sequence)
    → drop (4 + 4 * from_bool (is_some key) + 4 * from_bool (is_some sequence)) (spelling (record { key = key; sequence = sequence; protocol = protocol }) ignored ++ rest) ≡ rest
rest-of None None protocol ignored rest paired = refl
rest-of None (Some sequence) protocol ignored rest paired = refl
rest-of (Some key) None protocol ignored rest paired = absurd (false≢true (paired refl))
rest-of (Some key) (Some sequence) protocol ignored rest paired = refl

abbrev pub header_in : List ℕ → Header
header_in octets = header_at octets (has_key octets) (has_sequence octets)

pub header-spelled : (header : Header) (rest octets : List ℕ) → Spells header rest octets → header_in octets ≡ header
header-spelled header rest octets spells =
    let h = holds header.key header.sequence header.protocol spells.ignored rest spells.fits spells.ignored_fits in
    ap header_in spells.whole ∙ (λ i. header_at (spelling header spells.ignored ++ rest) (h.passes.says.key i) (h.passes.says.sequence i)) ∙ h.value

pub rest-spelled : (header : Header) (rest octets : List ℕ) → Spells header rest octets → drop (value_of header).rest octets ≡ rest
rest-spelled header rest octets spells =
    ap (drop (value_of header).rest) spells.whole ∙ rest-of header.key header.sequence header.protocol spells.ignored rest spells.fits.paired

-- ---- what is read is spelled
known-back : (protocol : ℕ) → is_known_protocol protocol ≡ true → IsProtocol protocol
known-back protocol known = elim (or_cases _ _ known) [
  | inl e ↦ inl (eqb-true _ _ e)
  | inr more ↦ elim (or_cases _ _ more) [ inl e ↦ inr (inl (eqb-true _ _ e)) | inr e ↦ inr (inr (eqb-true _ _ e)) ]
]

-- a number that is read where its flag says so, and what follows it
number-back : (flag : Bool) (at : ℕ) (octets : List ℕ) → AreOctets octets → at + 4 * from_bool flag ≤ length octets
    → optional_word (number_at flag at octets) ++ drop (at + 4 * from_bool flag) octets ≡ drop at octets
number-back true at octets are long = u32-back at octets are long
number-back false at octets are long = let none : at + 0 ≡ at = omega arith in ap (λ (n : ℕ). drop n octets) none

number-fits : (flag : Bool) (at : ℕ) (octets : List ℕ) → AreOctets octets → IfSome (number_at flag at octets) (λ n. n < 2 ^ 32)
number-fits true at octets are = u32-fits at octets are
number-fits false at octets are = tt

paired-back : (keyed numbered : Bool) (at : ℕ) (octets : List ℕ) → (keyed && not numbered) ≡ false
    → IsSome (number_at keyed 4 octets) → IsSome (number_at numbered at octets)
paired-back true true at octets paired some = refl
paired-back true false at octets paired some = absurd (false≢true (sym paired))
paired-back false numbered at octets paired some = absurd (false≢true some)

back : (octets : List ℕ) (keyed numbered : Bool) → AreOctets octets → Passes octets keyed numbered
    → Spells (header_at octets keyed numbered) (drop (4 + 4 * from_bool keyed + 4 * from_bool numbered) octets) octets
back octets keyed numbered are p =
    let at : ℕ = 4 + 4 * from_bool keyed in
    let ignored : ℕ = flags_of octets / 8 % 128 in
    let rest : List ℕ = drop (at + 4 * from_bool numbered) octets in
    let kind : List ℕ = to_be_bytes w16 (protocol_of octets) in
    let key : List ℕ = optional_word (number_at keyed 4 octets) in
    let sequence : List ℕ = optional_word (number_at numbered at octets) in
    let flags : List ℕ = to_be_bytes w16 (flags_word (header_at octets keyed numbered) ignored) in
    let word : flags_of octets ≡ flags_word (header_at octets keyed numbered) ignored =
    word-back (flags_of octets) keyed numbered p.says
    ∙ (λ i. 2 ^ 13 * from_bool (sym (is_some-number keyed 4 octets) i) + 2 ^ 12 * from_bool (sym (is_some-number numbered at octets) i) + 8 * ignored) in
    let after-key : drop 4 octets ≡ key ++ (sequence ++ rest) =
    sym (number-back keyed 4 octets are (omega (arith, p.long))) ∙ ap (λ (x : List ℕ). key ++ x) (sym (number-back numbered at octets are p.long)) in
    let after-flags : drop 2 octets ≡ kind ++ (key ++ (sequence ++ rest)) =
    sym (u16-back 2 octets are (omega (arith, p.long))) ∙ ap (λ (x : List ℕ). kind ++ x) after-key in
    let all : octets ≡ flags ++ (kind ++ (key ++ (sequence ++ rest))) =
    sym (u16-back 0 octets are (omega (arith, p.long))) ∙ (λ i. to_be_bytes w16 (word i) ++ after-flags i) in
    let regrouped : (flags ++ (kind ++ (key ++ sequence))) ++ rest ≡ flags ++ (kind ++ (key ++ (sequence ++ rest))) = simp append_assoc in
    record {
      fits = record {
        key = number-fits keyed 4 octets are;
        sequence = number-fits numbered at octets are;
        paired = paired-back keyed numbered at octets p.paired;
        protocol = known-back (protocol_of octets) p.known;
      };
      ignored = ignored;
      ignored_fits = omega arith;
      whole = all ∙ sym regrouped;
    }

record IsReadFrom (octets : List ℕ) (value : Gre) : Type 0 where
  passes : Passes octets (has_key octets) (has_sequence octets)
  value_is : gre_in octets ≡ value

reading-ok : (octets : List ℕ) (value : Gre) → AreOctets octets → reading_of octets ≡ Ok value → IsReadFrom octets value
unfolding reading_of
reading-ok octets value are e =
    let known : Result Gre GreBad = cond (not (is_known_protocol (protocol_of octets))) (Err Protocol) (Ok (gre_in octets)) in
    let long : Result Gre GreBad = cond (ltb (length octets) (header_len octets)) (Err Short) known in
    let paired : Result Gre GreBad = cond (has_key octets && not (has_sequence octets)) (Err KeyedNoSequence) long in
    let reserved : Result Gre GreBad = cond (has_reserved octets) (Err Reserved) paired in
    let summed : Result Gre GreBad = cond (is_set octets 15) (Err Checksum) reserved in
    let versioned : Result Gre GreBad = cond (not (flags_of octets % 8 == 0)) (Err Version) summed in
    let one = passed (ltb (length octets) 4) Short versioned value e in
    let two = passed (not (flags_of octets % 8 == 0)) Version summed value one.1 in
    let three = passed (is_set octets 15) Checksum reserved value two.1 in
    let four = passed (has_reserved octets) Reserved paired value three.1 in
    let five = passed (has_key octets && not (has_sequence octets)) KeyedNoSequence long value four.1 in
    let six = passed (ltb (length octets) (header_len octets)) Short known value five.1 in
    let seven = passed (not (is_known_protocol (protocol_of octets))) Protocol (Ok (gre_in octets)) value six.1 in
    let first = or_parts (is_set octets 14) (is_set octets 11 || is_set octets 10) four.0 in
    let later = or_parts (is_set octets 11) (is_set octets 10) first.1 in
    record {
      passes = record {
        says = record {
          version = eqb-true (flags_of octets % 8) 0 (not-false (flags_of octets % 8 == 0) two.0);
          checksum = three.0;
          first = first.0;
          second = later.0;
          third = later.1;
          key = refl;
          sequence = refl;
          below = u16-fits 0 octets are;
        };
        paired = five.0;
        long = ltb-false (length octets) (header_len octets) six.0;
        known = not-false (is_known_protocol (protocol_of octets)) seven.0;
      };
      value_is = cc;
    }

pub reading-spells : (octets : List ℕ) (value : Gre) → AreOctets octets → reading_of octets ≡ Ok value
    → (header : Header) × Spells header (drop value.rest octets) octets × (value ≡ value_of header)
reading-spells octets value are e =
    let from = reading-ok octets value are e in
    let same = sym from.value_is ∙ gre_in-value octets (has_key octets) (has_sequence octets) refl refl in (
      header_in octets,
      subst (λ (n : ℕ). Spells (header_in octets) (drop n octets) octets) (ap (λ (g : Gre). g.rest) from.value_is)
          (back octets (has_key octets) (has_sequence octets) are from.passes),
      same,
    )

-- the same of what a function answered
pub found_from : (octets : List ℕ) (answer : Result Gre GreBad) → AreOctets octets → answer ≡ reading_of octets
    → IfOk answer (λ value. (header : Header) × Spells header (drop value.rest octets) octets × (value ≡ value_of header))
found_from octets (Ok value) are e = reading-spells octets value are (sym e)
found_from octets (Err bad) are e = tt

-- ---- what is written is read
pub ignored-few : (tunnel : Tunnel) (key : Option ℕ) (long : Bool) → ignored_with tunnel key long < 128
ignored-few Own key true = omega arith
ignored-few Own key false = omega arith
ignored-few Librist None true = omega arith
ignored-few Librist None false = omega arith
ignored-few Librist (Some key) true = omega arith
ignored-few Librist (Some key) false = omega arith

pub reading-written : (tunnel : Tunnel) (key sequence : Option ℕ) (long : Bool) (protocol : ℕ) (all more : List ℕ)
    → IfSome key (λ n. n < 2 ^ 32) → IfSome sequence (λ n. n < 2 ^ 32) → (IsSome key → IsSome sequence)
    → IsProtocol protocol → all ≡ spelling (header_with key sequence protocol) (ignored_with tunnel key long)
    → reading_of (all ++ more) ≡ Ok (value_of (header_with key sequence protocol))
reading-written tunnel key sequence long protocol all more keyed numbered paired known whole =
    reading-spelled (header_with key sequence protocol) more (all ++ more) (record {
      fits = record { key = keyed; sequence = numbered; paired = paired; protocol = known };
      ignored = ignored_with tunnel key long;
      ignored_fits = ignored-few tunnel key long;
      whole = ap (λ (x : List ℕ). x ++ more) whole;
    })
