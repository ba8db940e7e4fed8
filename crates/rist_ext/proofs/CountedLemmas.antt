-- What an extension without a count of packets is read as.
use Rattle.std.proofs.Common.{◌≡◌, ℕ, zero, suc, ◌+◌, ◌-◌, ◌*◌, ◌%◌, ◌^◌, ◌<◌, ◌≤◌, cond, List, length, get_or, Result, Ok, Err, ap, ◌∙◌, arith}
use Rattle.std.specs.Prelude.{◌==◌, ◌&&◌, not}
use Rattle.std.proofs.lemmas.Nat.{mod_low, pow_pos}
use Rattle.octet_fields.proofs.TestLemmas.{passed}
use Rattle.ts_nulls.specs.Shape.{IsShape}
use Rattle.rist_ext.specs.declared.ext_word.ExtWord.{ExtWord}
use Rattle.rist_ext.specs.declared.ext_word.ExtBad.{ExtBad}
use Rattle.rist_ext.specs.declared.ext_word.ExtBad.TheVariants.{Profile, Length, Size}
use Rattle.rist_ext.specs.Reading.{units_in, has_strip, word_in, reading_of}
use Rattle.rist_ext.specs.Counted.{word_with, shape_in, counted_reading_of}

-- ---- bits of the last places
moved-below : (units bits : ℕ) → 1 ≤ units → units ≤ 7 → bits < 2 ^ units → bits * 2 ^ (7 - units) < 128
moved-below zero bits some few fits = absurd (omega (arith, some))
moved-below (suc zero) bits some few fits = omega (arith, fits)
moved-below (suc (suc zero)) bits some few fits = omega (arith, fits)
moved-below (suc (suc (suc zero))) bits some few fits = omega (arith, fits)
moved-below (suc (suc (suc (suc zero)))) bits some few fits = omega (arith, fits)
moved-below (suc (suc (suc (suc (suc zero))))) bits some few fits = omega (arith, fits)
moved-below (suc (suc (suc (suc (suc (suc zero)))))) bits some few fits = omega (arith, fits)
moved-below (suc (suc (suc (suc (suc (suc (suc zero))))))) bits some few fits = omega (arith, fits)
moved-below (suc (suc (suc (suc (suc (suc (suc (suc units)))))))) bits some few fits = absurd (omega (arith, few))

-- bits of the last places, moved to the first ones
pub record Moved (units bits : ℕ) : Type 0 where
  pub same : bits * 2 ^ (7 - units) % 256 ≡ bits * 2 ^ (7 - units)
  pub shape : IsShape units (bits * 2 ^ (7 - units))

pub moved : (units bits : ℕ) → 1 ≤ units → units ≤ 7 → bits < 2 ^ units → Moved units bits
moved units bits some few fits =
    let below = moved-below units bits some few fits in
    record {
      same = omega (arith, below);
      shape = record {
        some = some;
        few = few;
        below = below;
        clear = ap (λ (n : ℕ). n % 2 ^ (7 - units)) (let h : bits * 2 ^ (7 - units) ≡ bits * 2 ^ (7 - units) + 0 = omega arith in h)
            ∙ mod_low bits (7 - units) 0 (pow_pos (7 - units));
      };
    }

-- ---- a size that isn't 0
pub counted-same : (left profile : ℕ) (octets : List ℕ) (word : ExtWord) → reading_of profile octets ≡ Ok word
    → counted_reading_of left profile octets ≡ Ok word
unfolding reading_of counted_reading_of
counted-same left profile octets word e =
    let empty = has_strip (get_or octets 0 0) && (units_in (get_or octets 0 0) == 0) in
    let sized : Result ExtWord ExtBad = cond empty (Err Size) (Ok (word_in octets)) in
    let long : Result ExtWord ExtBad = cond (not (length octets == 4)) (Err Length) sized in
    let one = passed (not (profile == 0x5249)) Profile long word e in
    let two = passed (not (length octets == 4)) Length sized word one.1 in
    let three = passed empty Size (Ok (word_in octets)) word two.1 in
    (λ i. cond (one.0 i) (Err Profile) (cond (two.0 i) (Err Length) (cond (three.0 i) (word_with octets (shape_in left octets)) (Ok (word_in octets)))))
    ∙ three.1
