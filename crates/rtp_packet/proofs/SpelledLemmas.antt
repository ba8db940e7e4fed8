-- What is spelled is read: the parts of a spelling, one after another.
use Rattle.std.proofs.Common.{◌≡◌, ℕ, ◌+◌, ◌-◌, ◌/◌, true, false, List, [], ◌∷◌, ◌++◌, length, get_or, take, drop, Option, Some, None, refl, sym, ap, ◌∙◌, append_assoc, arith}
use Rattle.std.specs.Prelude.{IfSome, is_some}
use Rattle.std.specs.Int.{w16, from_be_bytes, to_be_bytes}
use Rattle.std.proofs.lemmas.Bool.{ne_eqb, le-ltb, or_from}
use Rattle.std.proofs.lemmas.List.{length-append, take_at, drop_at, take_all, drop-drop, append-nil, get_or_at}
use Rattle.std.proofs.lemmas.Nat.{from_be_bytes-to_be_bytes_2}
use Rattle.rtp_packet.specs.Rtp.{AreWords, IsExtension, extension_octets, padding_octets}
use Rattle.rtp_packet.specs.Reading.{extension_len, is_cut_extension, extension_at, after_extension, padding_len, is_bad_padding, payload_at}

-- ---- an extension

-- the count of words says how long they are
words-len : (words rest : List ℕ) (profile : ℕ) → AreWords 65535 words
    → extension_len true (extension_octets (Some (profile, words)) ++ rest) ≡ 4 + length words
words-len words rest profile are =
    let count : from_be_bytes w16 (to_be_bytes w16 (length words / 4)) ≡ length words / 4 =
    from_be_bytes-to_be_bytes_2 (length words / 4) (omega (arith, are.few)) in
    omega (arith, count, are.whole)

-- where the spelling of an extension and a rest are read, neither is cut
pub record IsRead (extension : Option (ℕ × List ℕ)) (rest : List ℕ) : Type 0 where
  pub cut : is_cut_extension (is_some extension) (extension_octets extension ++ rest) ≡ false
  pub value : extension_at (is_some extension) (extension_octets extension ++ rest) ≡ extension
  pub after : after_extension (is_some extension) (extension_octets extension ++ rest) ≡ rest

pub extension-read : (extension : Option (ℕ × List ℕ)) (rest : List ℕ) → IfSome extension IsExtension → IsRead extension rest
extension-read None rest fits = record { cut = refl; value = refl; after = refl }
extension-read (Some (profile, words)) rest fits =
    let all : List ℕ = extension_octets (Some (profile, words)) ++ rest in
    let len = words-len words rest profile fits.words in
    let whole = length-append words rest in
    let profile-is : from_be_bytes w16 (to_be_bytes w16 profile) ≡ profile = from_be_bytes-to_be_bytes_2 profile fits.profile in
    let words-is : take (extension_len true all - 4) (words ++ rest) ≡ words = take_at words rest (extension_len true all - 4) (omega (arith, len)) in
    record {
      cut = or_from _ _ (le-ltb (length all) 4 (omega arith)) (le-ltb (length all) (extension_len true all) (omega (arith, len, whole)));
      value = λ i. Some (profile-is i, words-is i);
      after = ap (λ (n : ℕ). drop n all) len ∙ sym (drop-drop (length words) 4 all) ∙ drop_at words rest (length words) refl;
    }

-- ---- padding

-- where a payload and its padding are read, the padding is good
pub record IsPadded (padding : Option (List ℕ)) (payload : List ℕ) : Type 0 where
  pub good : is_bad_padding (is_some padding) (payload ++ padding_octets padding) ≡ false
  pub value : payload_at (is_some padding) (payload ++ padding_octets padding) ≡ payload

pub padding-read : (padding : Option (List ℕ)) (payload : List ℕ) → IsPadded padding payload
padding-read None payload = record { good = refl; value = rw append-nil (take_all _ payload (omega arith)) }
padding-read (Some fill) payload =
    let all : List ℕ = payload ++ padding_octets (Some fill) in
    let len : length all ≡ length payload + length fill + 1 = omega (arith, length-append payload (padding_octets (Some fill)), length-append fill ((length fill + 1) ∷ [])) in
    let last : padding_len true all ≡ length fill + 1 =
    ap (λ (l : List ℕ). get_or l (length all - 1) 0) (sym (append_assoc payload fill ((length fill + 1) ∷ [])))
    ∙ get_or_at (payload ++ fill) (length fill + 1) [] 0 (length all - 1) (omega (arith, len, length-append payload fill)) in
    record {
      good = or_from _ _ (ne_eqb (padding_len true all) 0 (λ e. omega (arith, e, last))) (le-ltb (length all) (padding_len true all) (omega (arith, len, last)));
      value = take_at payload (padding_octets (Some fill)) (length all - padding_len true all) (omega (arith, len, last));
    }
