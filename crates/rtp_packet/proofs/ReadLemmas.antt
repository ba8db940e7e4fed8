-- What is read is spelled: the parts of octets, one after another.
use Rattle.std.proofs.Common.{◌≡◌, ℕ, ◌+◌, ◌-◌, ◌/◌, ◌<◌, ◌≤◌, Bool, true, false, cond, eqb, ltb, List, [], ◌∷◌, ◌++◌, length, get_or, take, drop, Option, Some, None, refl, sym, ap, ◌∙◌, arith}
use Rattle.std.specs.Prelude.{IfSome, is_some}
use Rattle.std.specs.Int.{w16, from_be_bytes}
use Rattle.std.proofs.lemmas.Bool.{ltb-false, eqb-false, or_parts}
use Rattle.std.proofs.lemmas.List.{length-take, length-drop, take_all, take-append-drop, take_more, get_or-drop, append-nil, drop-drop}
use Rattle.std.proofs.lemmas.Nat.{be_bytes_2}
use Rattle.rtp_packet.specs.Rtp.{IsExtension, extension_octets, padding_octets}
use Rattle.rtp_packet.specs.Reading.{extension_len, is_cut_extension, extension_at, after_extension, padding_len, is_bad_padding, payload_at}
use Rattle.octet_fields.proofs.OctetLemmas.{AreOctets, AreOctets-take, AreOctets-drop}

-- ---- an extension
pub record IsBack (flag : Bool) (rest : List ℕ) : Type 0 where
  pub whole : rest ≡ extension_octets (extension_at flag rest) ++ after_extension flag rest
  pub fits : IfSome (extension_at flag rest) IsExtension
  pub has : is_some (extension_at flag rest) ≡ flag

pub extension-back : (flag : Bool) (rest : List ℕ) → AreOctets rest → is_cut_extension flag rest ≡ false → IsBack flag rest
extension-back false rest are whole = record { whole = refl; fits = tt; has = refl }
extension-back true (a ∷ b ∷ c ∷ d ∷ more) are whole =
    let rest : List ℕ = a ∷ b ∷ c ∷ d ∷ more in
    let tests = or_parts (ltb (length rest) 4) (ltb (length rest) (extension_len true rest)) whole in
    let long : extension_len true rest ≤ length rest = ltb-false (length rest) (extension_len true rest) tests.1 in
    let count : ℕ = extension_len true rest - 4 in
    let words : List ℕ = take count more in
    let len : length words ≡ count = omega (arith, length-take count more) in
    let profile = be_bytes_2 (a ∷ b ∷ []) (from_be_bytes w16 (a ∷ b ∷ [])) refl (AreOctets-take 2 rest are) refl in
    let counted = be_bytes_2 (c ∷ d ∷ []) (length words / 4) refl (AreOctets-take 2 (drop 2 rest) (AreOctets-drop 2 rest are)) (omega (arith, len)) in
    let after-is : after_extension true rest ≡ drop count more =
    ap (λ (n : ℕ). drop n rest) (let e : extension_len true rest ≡ 4 + count = omega arith in e) ∙ sym (drop-drop count 4 rest) in
    let more-is : more ≡ words ++ after_extension true rest =
    sym (take-append-drop count more) ∙ ap (λ (x : List ℕ). words ++ x) (sym after-is) in
    record {
      whole = λ i. sym profile i ++ (sym counted i ++ more-is i);
      fits = record { profile = omega (arith, are 0, are 1); words = record { whole = omega (arith, len); few = omega (arith, len, are 2, are 3) } };
      has = refl;
    }
extension-back true rest are whole =
    let tests = or_parts (ltb (length rest) 4) (ltb (length rest) (extension_len true rest)) whole in
    absurd (omega (arith, ltb-false (length rest) 4 tests.0))

-- ---- padding

-- the octets of the padding before its count
abbrev pub padding_at : Bool → List ℕ → Option (List ℕ)
padding_at flag rest =
    cond flag (Some (take (padding_len flag rest - 1) (drop (length rest - padding_len flag rest) rest))) None

pub record IsPaddedBack (flag : Bool) (rest : List ℕ) : Type 0 where
  pub whole : rest ≡ payload_at flag rest ++ padding_octets (padding_at flag rest)
  pub fits : IfSome (padding_at flag rest) (λ fill. length fill < 255)
  pub has : is_some (padding_at flag rest) ≡ flag

pub padding-back : (flag : Bool) (rest : List ℕ) → AreOctets rest → is_bad_padding flag rest ≡ false → IsPaddedBack flag rest
padding-back false rest are good = record {
  whole = rw append-nil (sym (take_all (length rest - 0) rest (omega arith)));
  fits = tt;
  has = refl;
}
padding-back true rest are good =
    let count : ℕ = padding_len true rest in
    let start : ℕ = length rest - count in
    let tail : List ℕ = drop start rest in
    let fill : List ℕ = take (count - 1) tail in
    let tests = or_parts (eqb count 0) (ltb (length rest) count) good in
    let some : 0 < count = omega (arith, eqb-false count 0 tests.0) in
    let few : count ≤ length rest = ltb-false (length rest) count tests.1 in
    let tail-len : length tail ≡ count = omega (arith, length-drop start rest) in
    let fill-len : count ≡ length fill + 1 = omega (arith, length-take (count - 1) tail) in
    let place : start + (count - 1) ≡ length rest - 1 = omega arith in
    let last : get_or tail (count - 1) 0 ≡ count = get_or-drop start rest (count - 1) 0 ∙ ap (λ (k : ℕ). get_or rest k 0) place in
    let tail-is : tail ≡ fill ++ count ∷ [] =
    sym (take_all (count - 1 + 1) tail (omega arith)) ∙ take_more tail (count - 1) 0 (omega arith) ∙ ap (λ (x : ℕ). fill ++ x ∷ []) last in
    record {
      whole = sym (take-append-drop start rest) ∙ ap (λ (t : List ℕ). take start rest ++ t) (tail-is ∙ ap (λ (x : ℕ). fill ++ x ∷ []) fill-len);
      fits = omega (arith, are (length rest - 1), fill-len);
      has = refl;
    }
