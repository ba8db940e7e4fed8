-- Outputs one after another, and the ranges of what they read.
use Rattle.std.proofs.Common.{◌≡◌, ◌<◌, ◌≤◌, ◌-◌, ℕ, zero, suc, Bool, true, false, cond, List, [], ◌∷◌, ◌++◌, Option, Some, None, refl, sym, ap, subst, arith, length, map, append_assoc}
use Rattle.std.specs.Prelude.{not, nat_eq, nat_lt, ◌&&◌, ◌||◌, option_map, slice_index, slice_index_or}
use Rattle.std.specs.Borrow.{Bor}
use Rattle.std.specs.List.{list_any}
use Rattle.std.specs.Str.{bytes_eq}
use Rattle.std.proofs.lemmas.Bool.Decides.{nat_tests}
use Rattle.std.proofs.lemmas.List.{map-append}
use Rattle.std.proofs.lemmas.Slice.Eq.{bytes_eq-Decides}
use Rattle.clap.specs.Words.{Text}
use Rattle.rist_words.specs.Values.{name_of, number_in, ◌>>=◌}
use Rattle.rist_words.specs.Links.{split_at}
use Rattle.rist_words.specs.Outs.{are_different, equals, first_part, out_of, outs_in, outs_of, ports}
use Rattle.rist_words.proofs.PartRanges.{IsAmong, both_true, reads, same_some, text_range}

-- outputs before others
abbrev pub outs_with : List ℕ → List Text → Option (List ℕ × List Text) → Option (List ℕ × List Text)
outs_with numbers names more = option_map (λ outs. (numbers ++ outs.0, names ++ outs.1)) more

-- the same, with the names as they lie in memory
abbrev pub outs_before : List ℕ → List (Bor Text) → Option (List ℕ × List Text) → Option (List ℕ × List Text)
outs_before numbers names more = outs_with numbers (map (λ name. name.now) names) more

outs_after : (numbers : List ℕ) (names : List Text) (number : ℕ) (name : Text) (more : Option (List ℕ × List Text))
    → outs_with numbers names (more >>= (λ outs. Some (number ∷ outs.0, name ∷ outs.1))) ≡ outs_with (numbers ++ number ∷ []) (names ++ name ∷ []) more
outs_after numbers names number name None = refl
outs_after numbers names number name (Some outs) =
    rw (append_assoc numbers (number ∷ []) outs.0, append_assoc names (name ∷ []) outs.1) refl

-- a part that is an output, with more behind it, and with none
pub next_out : (numbers : List ℕ) (names : List Text) (most : ℕ) (text part more : Text) (number : ℕ) (name : Text) → 1 ≤ most
    → (part, Some more) ≡ first_part text → out_of part ≡ Some (number, name)
    → outs_with numbers names (outs_in most (Some text)) ≡ outs_with (numbers ++ number ∷ []) (names ++ name ∷ []) (outs_in (most - 1) (Some more))
next_out numbers names zero text part more number name some split is = absurd (omega arith)
next_out numbers names (suc most) text part more number name some split is =
    let less : suc most - 1 ≡ most = omega arith in
    rw (← split, is, less) (outs_after numbers names number name (outs_in most (Some more)))

pub last_out : (numbers : List ℕ) (names : List Text) (most : ℕ) (text part : Text) (number : ℕ) (name : Text) → 1 ≤ most
    → (part, None) ≡ first_part text → out_of part ≡ Some (number, name)
    → outs_with numbers names (outs_in most (Some text)) ≡ Some (numbers ++ number ∷ [], names ++ name ∷ [])
last_out numbers names zero text part number name some split is = absurd (omega arith)
last_out numbers names (suc most) text part number name some split is = rw (← split, is) refl

-- what a first part and an output are, without where they lie in memory
pub part_with_more : (r : Bor Text × Option (Bor Text)) (more : Bor Text) (s : Text × Option Text) → (r.0.now, option_map (λ m. m.now) r.1) ≡ s → r.1 ≡ Some more
    → (r.0.now, Some more.now) ≡ s
part_with_more r more s e is = rw (← e, is) refl

pub last_part : (r : Bor Text × Option (Bor Text)) (s : Text × Option Text) → (r.0.now, option_map (λ m. m.now) r.1) ≡ s → r.1 ≡ None → (r.0.now, None) ≡ s
last_part r s e is = rw (← e, is) refl

pub out_is : (r : Option (ℕ × Bor Text)) (x : ℕ × Bor Text) (s : Option (ℕ × Text)) → option_map (λ o. (o.0, o.1.now)) r ≡ s → r ≡ Some x → s ≡ Some (x.0, x.1.now)
out_is r x s e is = rw (← e, is) refl

-- one more of each
pub pushed : (old new : List ℕ) (texts more : List (Bor Text)) (number : ℕ) (name : Bor Text) → new ≡ old ++ number ∷ [] → more ≡ texts ++ name ∷ []
    → (rest : Option (List ℕ × List Text)) → outs_with (old ++ number ∷ []) (map (λ t. t.now) texts ++ name.now ∷ []) rest ≡ outs_before new more rest
pushed old new texts more number name numbers names rest = rw (numbers, names, map-append) refl

pub pushed_all : (old new : List ℕ) (texts more : List (Bor Text)) (number : ℕ) (name : Bor Text) → new ≡ old ++ number ∷ [] → more ≡ texts ++ name ∷ []
    → Path (Option (List ℕ × List Text)) (Some (old ++ number ∷ [], map (λ t. t.now) texts ++ name.now ∷ [])) (Some (new, map (λ t. t.now) more))
pushed_all old new texts more number name numbers names = rw (numbers, names, map-append) refl

-- ---- ranges

-- so many outputs at most, each with a port that is one and a name
pub record AreOuts (most : ℕ) (outs : List ℕ × List Text) : Type 0 where
  pub few : length outs.0 ≤ most
  pub count : length outs.1 ≡ length outs.0
  pub numbers : (k : ℕ) → k < length outs.0 → IsAmong ports (slice_index outs.0 k)
  pub named : (k : ℕ) → k < length outs.1 → 1 ≤ length (slice_index_or outs.1 k [])

no_outs : (most : ℕ) → AreOuts most ([], [])
no_outs most = record { few = omega arith; count = refl; numbers = λ k inside. absurd (omega (arith, inside)); named = λ k inside. absurd (omega (arith, inside)) }

one_more : (most number : ℕ) (name : Text) (outs : List ℕ × List Text) → IsAmong ports number → 1 ≤ length name → AreOuts most outs
    → AreOuts (suc most) (number ∷ outs.0, name ∷ outs.1)
one_more most number name outs is some are = record { few = omega (arith, are.few); count = ap suc are.count; numbers = numbers_at; named = named_at }
  where
    numbers_at : (k : ℕ) → k < length (number ∷ outs.0) → IsAmong ports (slice_index (number ∷ outs.0) k)
    numbers_at zero inside = is
    numbers_at (suc k) inside = are.numbers k (omega (arith, inside))

    named_at : (k : ℕ) → k < length (name ∷ outs.1) → 1 ≤ length (slice_index_or (name ∷ outs.1) k [])
    named_at zero inside = some
    named_at (suc k) inside = are.named k (omega (arith, inside))

name_range : (text name : Text) → name_of (Some text) ≡ Some name → 1 ≤ length name
name_range text name e = by_length (nat_lt 0 (length text)) refl e
  where
    by_length : (b : Bool) → nat_lt 0 (length text) ≡ b → cond b (Some text) None ≡ Some name → 1 ≤ length name
    by_length true some p = subst (λ n. 1 ≤ length n) (same_some text name p) (grind (arith, nat_tests))
    by_length false some p = cc

out_range : (text : Text) (out : ℕ × Text) → out_of text ≡ Some out → IsAmong ports out.0 × (1 ≤ length out.1)
out_range text out e =
    let parts = reads (split_at equals text) _ out e in
    let number = reads (number_in ports parts.value.0) _ out parts.rest in
    let name = reads (name_of (Some parts.value.1)) _ out number.rest in
    subst (λ o. IsAmong ports o.0 × (1 ≤ length o.1)) (same_some _ _ name.rest)
    (text_range ports parts.value.0 number.value number.is, name_range parts.value.1 name.value name.is)

outs_range : (most : ℕ) (given : Option Text) (outs : List ℕ × List Text) → outs_in most given ≡ Some outs → AreOuts most outs
outs_range most None outs e = subst (AreOuts most) (same_some _ _ e) (no_outs most)
outs_range zero (Some text) outs e = cc
outs_range (suc most) (Some text) outs e =
    let out = reads (out_of (first_part text).0) _ outs e in
    let more = reads (outs_in most (first_part text).1) _ outs out.rest in
    let r = out_range (first_part text).0 out.value out.is in
    subst (AreOuts (suc most)) (same_some _ _ more.rest)
    (one_more most out.value.0 out.value.1 more.value r.0 r.1 (outs_range most (first_part text).1 more.value more.is))

some_outs : (most : ℕ) (text : Text) (outs : List ℕ × List Text) → outs_in most (Some text) ≡ Some outs → 1 ≤ length outs.0
some_outs zero text outs e = cc
some_outs (suc most) text outs e =
    let out = reads (out_of (first_part text).0) _ outs e in
    let more = reads (outs_in most (first_part text).1) _ outs out.rest in
    subst (λ o. 1 ≤ length o.0) (same_some _ _ more.rest) (omega arith)

-- ---- no two the same

or_true : (a b : Bool) → b ≡ true → (a || b) ≡ true
or_true true b e = refl
or_true false b e = e

any_at : {A : Type 0} (test : A → Bool) (xs : List A) (k : ℕ) (d : A) → k < length xs → test (slice_index_or xs k d) ≡ true → list_any test xs ≡ true
any_at test [] k d inside is = absurd (omega (arith, inside))
any_at test (x ∷ xs) zero d inside is = rw is refl
any_at test (x ∷ xs) (suc k) d inside is = or_true (test x) (list_any test xs) (any_at test xs k d (omega (arith, inside)) is)

not_true : (a b : Bool) → (not a && b) ≡ true → a ≡ false
not_true true b e = cc
not_true false b e = refl

pub different_at : {A : Type 0} (same : A → A → Bool) (own : (x : A) → same x x ≡ true) (xs : List A) (d : A) → are_different same xs ≡ true
    → (j k : ℕ) → j < length xs → k < length xs → slice_index_or xs j d ≡ slice_index_or xs k d → j ≡ k
different_at same own [] d e j k first second is = absurd (omega (arith, first))
different_at same own (x ∷ xs) d e zero zero first second is = refl
different_at same own (x ∷ xs) d e zero (suc k) first second is =
    let none = not_true (list_any (λ y. same y x) xs) (are_different same xs) e in
    let any = any_at (λ y. same y x) xs k d (omega (arith, second)) (subst (λ y. same y x ≡ true) is (own x)) in
    cc
different_at same own (x ∷ xs) d e (suc j) zero first second is =
    let none = not_true (list_any (λ y. same y x) xs) (are_different same xs) e in
    let any = any_at (λ y. same y x) xs j d (omega (arith, first)) (subst (λ y. same y x ≡ true) (sym is) (own x)) in
    cc
different_at same own (x ∷ xs) d e (suc j) (suc k) first second is =
    ap suc (different_at same own xs d (both_true _ _ e) j k (omega (arith, first)) (omega (arith, second)) is)

-- names differ as they lie in memory where their texts do
any_name : (name : Bor Text) (names : List (Bor Text))
    → list_any (λ t. bytes_eq t.now name.now) names ≡ list_any (λ t. bytes_eq t name.now) (map (λ t. t.now) names)
any_name name [] = refl
any_name name (other ∷ names) = ap (λ any. bytes_eq other.now name.now || any) (any_name name names)

pub different_names : (names : List (Bor Text)) → are_different (λ a b. bytes_eq a.now b.now) names ≡ are_different bytes_eq (map (λ t. t.now) names)
different_names [] = refl
different_names (name ∷ names) = rw (any_name name names, different_names names) refl

pub second_of : (a b : Bool) → a ≡ true → b ≡ (a && b)
second_of true b e = refl
second_of false b e = cc

own_number : (n : ℕ) → nat_eq n n ≡ true
own_number n = grind (arith, nat_tests)

own_text : (text : Text) → bytes_eq text text ≡ true
own_text text = grind (arith, bytes_eq-Decides text text)

-- one to eight outputs, of different ports and of different names
pub record AreSplitOuts (outs : List ℕ × List Text) : Type 0 where
  pub are : AreOuts 8 outs
  pub some : 1 ≤ length outs.0
  pub different : (j k : ℕ) → j < length outs.0 → k < length outs.0 → slice_index outs.0 j ≡ slice_index outs.0 k → j ≡ k
  pub apart : (j k : ℕ) → j < length outs.1 → k < length outs.1 → slice_index_or outs.1 j [] ≡ slice_index_or outs.1 k [] → j ≡ k

first_true : (a b : Bool) → (a && b) ≡ true → a ≡ true
first_true true b e = refl
first_true false b e = cc

pub split_outs_range : (given : Option Text) (outs : List ℕ × List Text) → outs_of given ≡ Some outs → AreSplitOuts outs
split_outs_range None outs e = cc
split_outs_range (Some text) outs e =
    let read = reads (outs_in 8 (Some text)) _ outs e in
    by_fit read.value read.is (are_different nat_eq read.value.0 && are_different bytes_eq read.value.1) refl read.rest
  where
    by_fit : (all : List ℕ × List Text) → outs_in 8 (Some text) ≡ Some all → (b : Bool) → (are_different nat_eq all.0 && are_different bytes_eq all.1) ≡ b
        → cond b (Some all) None ≡ Some outs → AreSplitOuts outs
    by_fit all is true fit p = subst AreSplitOuts (same_some all outs p) (record {
      are = outs_range 8 (Some text) all is;
      some = some_outs 8 text all is;
      different = different_at nat_eq own_number all.0 0 (first_true _ _ fit);
      apart = different_at bytes_eq own_text all.1 [] (both_true _ _ fit);
    })
    by_fit all is false fit p = cc
