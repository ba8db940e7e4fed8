-- What the calls of std on texts come to in the words of the specifications.
use Rattle.std.proofs.Common.{rules, ◌≡◌, ◌∙◌, ◌<◌, ◌^◌, ◌++◌, ◌≤◌, ℕ, Bool, true, false, List, Option, Some, None, Ok, Err, IfSome, IfNone, arith, Result, length, take, drop, ap, sym, refl, inl, inr}
use Rattle.std.specs.Str.Parse.{ParsesUnsigned, digits_value}
use Rattle.std.specs.Result.{OkIff, result_ok}
use Rattle.std.proofs.lemmas.Bool.{cases_lt}
use Rattle.std.specs.Char.{is_ascii_digit}
use Rattle.std.specs.List.{list_all}
use Rattle.std.proofs.lemmas.Str.Parse.{IsNumeralModel, numerals_by_value, parse_digits}
use Rattle.std.specs.Borrow.{Bor}
use Rattle.std.specs.Option.{MatchOption, option_map}
use Rattle.std.specs.Prelude.{◌≢◌, if◌then◌else◌}
use Rattle.std.specs.Str.{bytes_eq}
use Rattle.std.specs.Str.Pattern.{FindsTextPrefix, StripsPrefix}
use Rattle.std.proofs.Math.Seq.{take-append_seam}
use Rattle.std.proofs.lemmas.List.{take-append-drop}
use Rattle.std.proofs.lemmas.Slice.Eq.{bytes_eq-Decides}
use Rattle.host_text.specs.Parts.{behind, is_numeral}

-- ---- digits parse to their number where it fits

own : IsNumeralModel (λ ds. list_all is_ascii_digit ds ≡ true) (digits_value 10)
own = numerals_by_value _ (search rules)

parsed : {E : Type 0} (text : List ℕ) (r : Result ℕ E) → ParsesUnsigned 64 10 text r → is_numeral text ≡ true
    → OkIff r ((0 < length text) × (digits_value 10 text < 2 ^ 64)) (digits_value 10 text)
parsed text r h numeral = parse_digits own 64 text r h (grind (arith, numeral))

some_read : {E : Type 0} (r : Result ℕ E) (P : Type 0) (v : ℕ) → OkIff r P v → IfSome (result_ok r) (λ n. n ≡ v)
some_read (Ok x) P v h = h.1
some_read (Err e) P v h = tt

none_read : {E : Type 0} (r : Result ℕ E) (length v : ℕ) → OkIff r ((0 < length) × (v < 2 ^ 64)) v → 0 < length
    → IfNone (result_ok r) (2 ^ 64 ≤ v)
none_read (Ok x) length v h some = tt
none_read (Err e) length v h some = elim (cases_lt v (2 ^ 64)) [ inl lt ↦ absurd (h (some, lt)) | inr le ↦ le ]

-- what a parse of a numeral gives, as an option
pub some_value : {E : Type 0} (text : List ℕ) (r : Result ℕ E) → ParsesUnsigned 64 10 text r → is_numeral text ≡ true
    → IfSome (result_ok r) (λ n. n ≡ digits_value 10 text)
some_value text r h numeral = some_read r _ _ (parsed text r h numeral)

pub none_value : {E : Type 0} (text : List ℕ) (r : Result ℕ E) → ParsesUnsigned 64 10 text r → is_numeral text ≡ true
    → IfNone (result_ok r) (2 ^ 64 ≤ digits_value 10 text)
none_value text r h numeral = none_read r (length text) _ (parsed text r h numeral) (grind (arith, numeral))

-- ---- a text without the front that it begins with

begins : (front text rest : List ℕ) → text ≡ front ++ rest → bytes_eq (take (length front) text) front ≡ true
begins front text rest is =
    (bytes_eq-Decides (take (length front) text) front).1 (ap (take (length front)) is ∙ take-append_seam front rest)

chosen : (b : Bool) (x : List ℕ) → b ≡ true → Some x ≡ (if b then Some x else None)
chosen true x is = refl
chosen false x is = cc

begins_not : (front text : List ℕ) → ((rest : List ℕ) → drop 0 text ≢ front ++ rest) → (b : Bool)
    → bytes_eq (take (length front) text) front ≡ b → None ≡ (if b then Some (drop (length front) text) else None)
begins_not front text lacks true is =
    absurd (lacks (drop (length front) text)
    (sym (take-append-drop (length front) text)
    ∙ ap (λ f. f ++ drop (length front) text) ((bytes_eq-Decides (take (length front) text) front).0 is)))
begins_not front text lacks false is = refl

pub stripped : (front text : List ℕ) (r : Option (Bor (List ℕ)))
    → MatchOption r (FindsTextPrefix front text None) (λ x. StripsPrefix (FindsTextPrefix front) text x.now)
    → option_map (λ rest. rest.now) r ≡ behind front text
stripped front text None lacks = begins_not front text lacks (bytes_eq (take (length front) text) front) refl
stripped front text (Some x) found =
    ap Some (found.2 ∙ ap (λ k. drop k text) found.1.0) ∙ chosen _ _ (begins front text (drop found.0 text) found.1.1)
