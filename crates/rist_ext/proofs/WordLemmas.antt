-- The word that stands in octets, from a spelling and back to it.
use Rattle.std.proofs.Common.{◌≡◌, ℕ, zero, suc, ◌+◌, ◌-◌, ◌*◌, ◌/◌, ◌%◌, ◌^◌, ◌<◌, ◌≤◌, Bool, true, false, cond, List, [], ◌∷◌, length, get_or, Option, Some, None, Result, Ok, Err, refl, sym, ap, subst, ◌∙◌, arith}
use Rattle.std.specs.Prelude.{IfSome, IfOk, is_some, ◌==◌, ◌&&◌, not}
use Rattle.std.specs.Int.{w16, from_be_bytes, to_be_bytes, bit_at, from_bool}
use Rattle.std.proofs.lemmas.Bool.{eq-eqb, ne_eqb, eqb-true, not-false, false≢true}
use Rattle.std.proofs.lemmas.Nat.{shr_split, mod_low, pow_pos, mod_below, from_be_bytes-to_be_bytes_2, be_bytes_2}
use Rattle.octet_fields.proofs.OctetLemmas.{AreOctets}
use Rattle.octet_fields.proofs.FlagLemmas.{from_bool-most, flag-is, bit-is, high_flag-says}
use Rattle.octet_fields.proofs.TestLemmas.{passed}
use Rattle.ts_nulls.specs.Shape.{Shape, IsShape}
use Rattle.rist_ext.specs.declared.ext_word.ExtWord.{ExtWord}
use Rattle.rist_ext.specs.declared.ext_word.ExtBad.{ExtBad}
use Rattle.rist_ext.specs.declared.ext_word.ExtBad.TheVariants.{Profile, Length, Size}
use Rattle.rist_ext.specs.Extension.{unread_in, size_of, second_octet, upper_of, spelling, Spells, nothing_unread}
use Rattle.rist_ext.specs.Reading.{units_in, has_strip, nulls_in, strip_in, upper_in, word_in, reading_of}

-- the bits without those past the last packet are a multiple of the last packet's
nulls_in-is : (units second : ℕ) → nulls_in units second ≡ second % 128 / 2 ^ (7 - units) * 2 ^ (7 - units)
nulls_in-is units second = omega (arith, shr_split (second % 128) (7 - units))

pub nulls_in-shape : (units second : ℕ) → 1 ≤ units → units ≤ 7 → IsShape units (nulls_in units second)
nulls_in-shape units second some few = record {
  some = some;
  few = few;
  below = omega arith;
  clear = ap (λ (n : ℕ). n % 2 ^ (7 - units)) (nulls_in-is units second ∙ (let h : second % 128 / 2 ^ (7 - units) * 2 ^ (7 - units) ≡ second % 128 / 2 ^ (7 - units) * 2 ^ (7 - units) + 0 = omega arith in h))
      ∙ mod_low (second % 128 / 2 ^ (7 - units)) (7 - units) 0 (pow_pos (7 - units));
}

-- what the first octet says
record Says (first : ℕ) (stripped wide : Bool) (units : ℕ) : Type 0 where
  strip : has_strip first ≡ stripped
  upper : (bit_at first 6 == 1) ≡ wide
  units_are : units_in first ≡ units

first-says : (stripped wide : Bool) (units reserved : ℕ) → units < 8 → reserved < 8 → Says (128 * from_bool stripped + 64 * from_bool wide + 8 * units + reserved) stripped wide units
first-says stripped wide units reserved lt few =
    let strip = from_bool-most stripped in
    let upper = from_bool-most wide in
    record { strip = flag-is _ stripped (omega (arith, strip, upper)); upper = flag-is _ wide (omega (arith, strip, upper)); units_are = omega (arith, strip, upper) }

first-back : (first : ℕ) → first < 256 → first ≡ 128 * from_bool (has_strip first) + 64 * from_bool (bit_at first 6 == 1) + 8 * units_in first + first % 8
first-back first lt = omega (arith, bit-is first 7 _ refl, bit-is first 6 _ refl)

-- the bits with unread ones past the last packet
record Masks (units nulls unread : ℕ) : Type 0 where
  fits : nulls + unread < 128
  masked : (nulls + unread) - (nulls + unread) % 2 ^ (7 - units) ≡ nulls

masks : (units nulls unread : ℕ) → IsShape units nulls → unread < 2 ^ (7 - units) → Masks units nulls unread
masks zero nulls unread s lt = absurd (omega (arith, s.some))
masks (suc zero) nulls unread s lt = record { fits = omega (arith, s.clear, s.below, lt); masked = omega (arith, s.clear, s.below, lt) }
masks (suc (suc zero)) nulls unread s lt = record { fits = omega (arith, s.clear, s.below, lt); masked = omega (arith, s.clear, s.below, lt) }
masks (suc (suc (suc zero))) nulls unread s lt = record { fits = omega (arith, s.clear, s.below, lt); masked = omega (arith, s.clear, s.below, lt) }
masks (suc (suc (suc (suc zero)))) nulls unread s lt = record { fits = omega (arith, s.clear, s.below, lt); masked = omega (arith, s.clear, s.below, lt) }
masks (suc (suc (suc (suc (suc zero))))) nulls unread s lt = record { fits = omega (arith, s.clear, s.below, lt); masked = omega (arith, s.clear, s.below, lt) }
masks (suc (suc (suc (suc (suc (suc zero)))))) nulls unread s lt = record { fits = omega (arith, s.clear, s.below, lt); masked = omega (arith, s.clear, s.below, lt) }
masks (suc (suc (suc (suc (suc (suc (suc zero))))))) nulls unread s lt = record { fits = omega (arith, s.clear, s.below, lt); masked = omega (arith, s.clear, s.below, lt) }
masks (suc (suc (suc (suc (suc (suc (suc (suc units)))))))) nulls unread s lt = absurd (omega (arith, s.few))

-- ---- what is spelled is read

strip-spelled : (strip : Option Shape) (first second size unread : ℕ) → has_strip first ≡ is_some strip → units_in first ≡ size_of strip size
    → second ≡ second_octet strip unread → IfSome strip (λ shape. IsShape shape.units shape.nulls) → unread < unread_in strip → strip_in first second ≡ strip
strip-spelled None first second size unread has units-are e fits lt =
    λ i. cond (has i) (Some (record { units = units_in first; long = bit_at second 7 == 1; nulls = nulls_in (units_in first) second })) None
strip-spelled (Some shape) first second size unread has units-are e fits lt =
    let m = masks shape.units shape.nulls unread fits lt in
    let same : second ≡ 128 * from_bool shape.long + (shape.nulls + unread) = omega (arith, e) in
    let says = high_flag-says shape.long (shape.nulls + unread) m.fits in
    let long-is : (bit_at second 7 == 1) ≡ shape.long = ap (λ (n : ℕ). bit_at n 7 == 1) same ∙ says.0 in
    let low : second % 128 ≡ shape.nulls + unread = ap (λ (n : ℕ). n % 128) same ∙ says.1 in
    let nulls-are : nulls_in (units_in first) second ≡ shape.nulls = (λ i. low i - low i % 2 ^ (7 - units-are i)) ∙ m.masked in
    (λ i. cond (has i) (Some (record { units = units_in first; long = bit_at second 7 == 1; nulls = nulls_in (units_in first) second })) None)
    ∙ (λ i. Some (record { units = units-are i; long = long-is i; nulls = nulls-are i }))

pub upper-spelled : (upper : Option ℕ) (first unread : ℕ) → (bit_at first 6 == 1) ≡ is_some upper → IfSome upper (λ u. u < 2 ^ 16)
    → upper_in first (to_be_bytes w16 (upper_of upper unread)) ≡ upper
upper-spelled None first unread has fits = λ i. cond (has i) (Some (from_be_bytes w16 (to_be_bytes w16 unread))) None
upper-spelled (Some upper) first unread has fits =
    (λ i. cond (has i) (Some (from_be_bytes w16 (to_be_bytes w16 upper))) None) ∙ ap (λ (n : ℕ). Some n) (from_be_bytes-to_be_bytes_2 upper fits)

size-fits : (strip : Option Shape) (size : ℕ) → IfSome strip (λ shape. IsShape shape.units shape.nulls) → size < 8 → size_of strip size < 8
size-fits None size fits lt = lt
size-fits (Some shape) size fits lt = omega (arith, fits.few)

size-good : (strip : Option Shape) (first size : ℕ) → has_strip first ≡ is_some strip → units_in first ≡ size_of strip size
    → IfSome strip (λ shape. IsShape shape.units shape.nulls) → (has_strip first && (units_in first == 0)) ≡ false
size-good None first size has units-are fits = λ i. has i && (units_in first == 0)
size-good (Some shape) first size has units-are fits =
    (λ i. has i && (units-are i == 0)) ∙ ne_eqb shape.units 0 (λ e. omega (arith, e, fits.some))

pub reading-spelled : (word : ExtWord) (octets : List ℕ) → Spells word octets → (reading_of 0x5249 octets ≡ Ok word) × (word_in octets ≡ word)
unfolding reading_of
reading-spelled word octets spells =
    let u = spells.unread in
    let says = first-says (is_some word.strip) (is_some word.upper) (size_of word.strip u.size) u.reserved (size-fits word.strip u.size spells.fits.strip spells.unread_fits.size) spells.unread_fits.reserved in
    let all : List ℕ = spelling word u in
    let first : ℕ = 128 * from_bool (is_some word.strip) + 64 * from_bool (is_some word.upper) + 8 * size_of word.strip u.size + u.reserved in
    let strip = strip-spelled word.strip first (second_octet word.strip u.second) u.size u.second says.strip says.units_are refl spells.fits.strip spells.unread_fits.second in
    let upper = upper-spelled word.upper first u.upper says.upper spells.fits.upper in
    let same : word_in octets ≡ word = ap word_in spells.whole ∙ (λ i. record { strip = strip i; upper = upper i }) in
    let good = size-good word.strip first u.size says.strip says.units_are spells.fits.strip in
    let bad : Result ExtWord ExtBad = Err Size in
    (ap (reading_of 0x5249) spells.whole ∙ (λ i. cond (good i) bad (Ok (record { strip = strip i; upper = upper i }))), same)

-- ---- what is read is spelled

strip-back : (b : Bool) (first second : ℕ) → first < 256 → second < 256 → has_strip first ≡ b → (b ≡ true → units_in first ≡ 0 → ⊥)
    → (unread : ℕ) × (IfSome (strip_in first second) (λ shape. IsShape shape.units shape.nulls)) × (unread < unread_in (strip_in first second))
    × (second ≡ second_octet (strip_in first second) unread) × (is_some (strip_in first second) ≡ b) × (size_of (strip_in first second) (units_in first) ≡ units_in first)
strip-back true first second lt lt2 has some =
    let units : ℕ = units_in first in
    let shape : Shape = record { units = units; long = bit_at second 7 == 1; nulls = nulls_in units second } in
    let is : Some shape ≡ strip_in first second = λ i. cond (sym has i) (Some shape) None in
    let P : Option Shape → Type 0 = λ s. (unread : ℕ) × (IfSome s (λ x. IsShape x.units x.nulls)) × (unread < unread_in s)
    × (second ≡ second_octet s unread) × (is_some s ≡ true) × (size_of s units ≡ units) in
    let pow = pow_pos (7 - units) in
    let le = shr_split (second % 128) (7 - units) in
    let bit = bit-is second 7 _ refl in
    subst P is (second % 128 % 2 ^ (7 - units), nulls_in-shape units second (let h = some refl in omega (arith, h)) (omega arith), mod_below (second % 128) (2 ^ (7 - units)) pow, omega (arith, bit, le), refl, refl)
strip-back false first second lt lt2 has some =
    let is : None ≡ strip_in first second = λ i. cond (sym has i) (Some (record { units = units_in first; long = bit_at second 7 == 1; nulls = nulls_in (units_in first) second })) None in
    let P : Option Shape → Type 0 = λ s. (unread : ℕ) × (IfSome s (λ x. IsShape x.units x.nulls)) × (unread < unread_in s)
    × (second ≡ second_octet s unread) × (is_some s ≡ false) × (size_of s (units_in first) ≡ units_in first) in
    subst P is (second, tt, lt2, refl, refl, refl)

upper-back : (b : Bool) (first c d : ℕ) → c < 256 → d < 256 → (bit_at first 6 == 1) ≡ b
    → (IfSome (upper_in first (c ∷ d ∷ [])) (λ u. u < 2 ^ 16)) × (c ∷ d ∷ [] ≡ to_be_bytes w16 (upper_of (upper_in first (c ∷ d ∷ [])) (from_be_bytes w16 (c ∷ d ∷ []))))
    × (is_some (upper_in first (c ∷ d ∷ [])) ≡ b)
upper-back b first c d ltc ltd has =
    let n : ℕ = from_be_bytes w16 (c ∷ d ∷ []) in
    let fits : (i : ℕ) → get_or (c ∷ d ∷ []) i 0 < 256 = two c d ltc ltd in
    let same : c ∷ d ∷ [] ≡ to_be_bytes w16 n = sym (be_bytes_2 (c ∷ d ∷ []) n refl fits refl) in
    let o : Option ℕ = cond b (Some n) None in
    let is : o ≡ upper_in first (c ∷ d ∷ []) = λ i. cond (sym has i) (Some n) None in
    let P : Option ℕ → Type 0 = λ x. (IfSome x (λ u. u < 2 ^ 16)) × (c ∷ d ∷ [] ≡ to_be_bytes w16 (upper_of x n)) × (is_some x ≡ b) in
    subst P is (at-flag b c d n ltc ltd refl same)
  where
    two : (c d : ℕ) → c < 256 → d < 256 → (i : ℕ) → get_or (c ∷ d ∷ []) i 0 < 256
    two c d p q zero = p
    two c d p q (suc zero) = q
    two c d p q (suc (suc i)) = omega arith

    at-flag : (b : Bool) (c d n : ℕ) → c < 256 → d < 256 → n ≡ from_be_bytes w16 (c ∷ d ∷ []) → c ∷ d ∷ [] ≡ to_be_bytes w16 n
        → (IfSome (cond b (Some n) None) (λ u. u < 2 ^ 16)) × (c ∷ d ∷ [] ≡ to_be_bytes w16 (upper_of (cond b (Some n) None) n)) × (is_some (cond b (Some n) None) ≡ b)
    at-flag true c d n p q e same = (omega (arith, e), same, refl)
    at-flag false c d n p q e same = (tt, same, refl)

word-back : (a b c d : ℕ) → a < 256 → b < 256 → c < 256 → d < 256 → (has_strip a && (units_in a == 0)) ≡ false
    → Spells (word_in (a ∷ b ∷ c ∷ d ∷ [])) (a ∷ b ∷ c ∷ d ∷ [])
word-back a b c d lta ltb ltc ltd good =
    let strip = strip-back (has_strip a) a b lta ltb refl (λ h z. false≢true (sym good ∙ (λ i. h i && eq-eqb (units_in a) 0 z i))) in
    let upper = upper-back (bit_at a 6 == 1) a c d ltc ltd refl in
    record {
      fits = record { strip = strip.1; upper = upper.0 };
      unread = record { reserved = a % 8; size = units_in a; second = strip.0; upper = from_be_bytes w16 (c ∷ d ∷ []) };
      unread_fits = record { reserved = omega arith; size = omega arith; second = strip.2; upper = omega (arith, ltc, ltd) };
      whole = λ i. (first-back a lta ∙ (λ j. 128 * from_bool (sym strip.4 j) + 64 * from_bool (sym upper.2 j) + 8 * sym strip.5 j + a % 8)) i ∷ strip.3 i ∷ upper.1 i;
    }

four : (octets : List ℕ) (word : ExtWord) → AreOctets octets → length octets ≡ 4
    → (has_strip (get_or octets 0 0) && (units_in (get_or octets 0 0) == 0)) ≡ false → word_in octets ≡ word → Spells word octets
four [] word are len good is = absurd (omega (arith, len))
four (a ∷ []) word are len good is = absurd (omega (arith, len))
four (a ∷ b ∷ []) word are len good is = absurd (omega (arith, len))
four (a ∷ b ∷ c ∷ []) word are len good is = absurd (omega (arith, len))
four (a ∷ b ∷ c ∷ d ∷ []) word are len good is =
    subst (λ (w : ExtWord). Spells w (a ∷ b ∷ c ∷ d ∷ [])) is (word-back a b c d (are 0) (are 1) (are 2) (are 3) good)
four (a ∷ b ∷ c ∷ d ∷ e ∷ octets) word are len good is = absurd (omega (arith, len))

reading-spells : (profile : ℕ) (octets : List ℕ) (word : ExtWord) → AreOctets octets → reading_of profile octets ≡ Ok word → Spells word octets
unfolding reading_of
reading-spells profile octets word are e =
    let sized : Result ExtWord ExtBad = cond (has_strip (get_or octets 0 0) && (units_in (get_or octets 0 0) == 0)) (Err Size) (Ok (word_in octets)) in
    let long : Result ExtWord ExtBad = cond (not (length octets == 4)) (Err Length) sized in
    let one = passed (not (profile == 0x5249)) Profile long word e in
    let two = passed (not (length octets == 4)) Length sized word one.1 in
    let three = passed (has_strip (get_or octets 0 0) && (units_in (get_or octets 0 0) == 0)) Size (Ok (word_in octets)) word two.1 in
    let same : word_in octets ≡ word = cc in
    four octets word are (eqb-true (length octets) 4 (not-false (length octets == 4) two.0)) three.0 same

pub found_from : (profile : ℕ) (octets : List ℕ) (answer : Result ExtWord ExtBad) → AreOctets octets → answer ≡ reading_of profile octets
    → IfOk answer (λ word. Spells word octets)
found_from profile octets (Ok word) are e = reading-spells profile octets word are (sym e)
found_from profile octets (Err bad) are e = tt

-- ---- what is written is read
none-unread : (strip : Option Shape) → 0 < unread_in strip
none-unread None = omega arith
none-unread (Some shape) = pow_pos (7 - shape.units)

pub reading-written : (word : ExtWord) (octets : List ℕ) → IfSome word.strip (λ shape. IsShape shape.units shape.nulls) → IfSome word.upper (λ upper. upper < 2 ^ 16)
    → octets ≡ spelling word nothing_unread → reading_of 0x5249 octets ≡ Ok word
reading-written word octets strip upper whole =
    (reading-spelled word octets (record {
      fits = record { strip = strip; upper = upper };
      unread = nothing_unread;
      unread_fits = record { reserved = omega arith; size = omega arith; second = none-unread word.strip; upper = omega arith };
      whole = whole;
    })).0
