-- Names, no two of which are the same.
use Rattle.std.proofs.Common.{zero, suc, ◌≡◌, ◌≢◌, ◌⊎◌, ◌≤◌, ◌<◌, ℕ, Bool, true, false, List, [], ◌∷◌, length, map, take, refl, sym, ◌∙◌, subst, arith, slice_index_or, length-take}
use mathlib.Core.Logic.{inl, inr}
use Rattle.std.specs.List.{Contains}
use Rattle.std.specs.Str.{bytes_eq}
use Rattle.std.proofs.lemmas.List.{get_or_default, get_or-map, get_or-take, take-map}
use Rattle.std.proofs.lemmas.Map.Made.{Contains-tail}
use Rattle.std.proofs.lemmas.Slice.Eq.{bytes_eq-Decides}
use Rattle.outside_host.specs.Sinks.{AreDifferent}

-- one number lies below another, or not
pub below : (a b : ℕ) → (a < b) ⊎ (b ≤ a)
below zero zero = inr (omega arith)
below zero (suc b) = inl (omega arith)
below (suc a) zero = inr (omega arith)
below (suc a) (suc b) = above (below a b)
  where
    above : (a < b) ⊎ (b ≤ a) → (suc a < suc b) ⊎ (suc b ≤ suc a)
    above (inl less) = inl (omega (arith, less))
    above (inr least) = inr (omega (arith, least))

-- a name is this one, or another
pub same_name : (a b : List ℕ) → (a ≡ b) ⊎ (a ≢ b)
same_name a b = by_test (bytes_eq a b) refl
  where
    by_test : (test : Bool) → bytes_eq a b ≡ test → (a ≡ b) ⊎ (a ≢ b)
    by_test true is = inl ((bytes_eq-Decides a b).0 is)
    by_test false is = inr (λ same. let no = sym is ∙ (bytes_eq-Decides a b).1 same in cc)

-- a name is among these, or not
pub among : (names : List (List ℕ)) (name : List ℕ) → Contains names name ⊎ (Contains names name → ⊥)
among [] name = inr (λ there. absurd (omega (arith, there.1)))
among (first ∷ names) name = by_first (same_name first name) (among names name)
  where
    by_first : (first ≡ name) ⊎ (first ≢ name) → Contains names name ⊎ (Contains names name → ⊥) → Contains (first ∷ names) name ⊎ (Contains (first ∷ names) name → ⊥)
    by_first (inl same) rest = inl (0, omega arith, same)
    by_first (inr other) (inl there) = inl (suc there.0, omega (arith, there.1), there.2)
    by_first (inr other) (inr none) = inr (λ there. none (Contains-tail first names name other there))

pub contains_at : (names : List (List ℕ)) (i : ℕ) (d : List ℕ) → i < length names → Contains names (slice_index_or names i d)
contains_at names i d inside = (i, inside, get_or_default names i (slice_index_or names i d) d inside)

pub contains_taken : (names : List (List ℕ)) (i : ℕ) (name : List ℕ) → Contains (take i names) name → Contains names name
contains_taken names i name there =
    let count : there.0 < length (take i names) = there.1 in
    (there.0, omega (arith, length-take i names, count), sym (get_or-take i names there.0 name (omega (arith, length-take i names, count))) ∙ there.2)

-- a name stands at one place alone
pub apart : (names : List (List ℕ)) (i j : ℕ) (d : List ℕ) → AreDifferent names → i < length names → j < length names → (i ≡ j → ⊥) → slice_index_or names i d ≢ slice_index_or names j d
apart names i j d different inside within other = by_order (below i j)
  where
    by_order : (i < j) ⊎ (j ≤ i) → slice_index_or names i d ≢ slice_index_or names j d
    by_order (inl less) = different i j d less within
    by_order (inr least) = λ same. different j i d (omega (arith, least, other)) inside (sym same)

-- none of the first names stands further on
pub is_new : (names : List (List ℕ)) (i k : ℕ) (d : List ℕ) → AreDifferent names → i ≤ k → k < length names → Contains (take i names) (slice_index_or names k d) → ⊥
is_new names i k d different least inside there =
    let count : there.0 < length (take i names) = there.1 in
    let less : there.0 < i = omega (arith, length-take i names, count) in
    different there.0 k (slice_index_or names k d) (omega (arith, less, least)) inside
    (sym (get_or-take i names there.0 (slice_index_or names k d) less) ∙ (there.2 ∙ sym (get_or_default names k (slice_index_or names k d) d inside)))

pub different_taken : (names : List (List ℕ)) (i : ℕ) → AreDifferent names → AreDifferent (take i names)
different_taken names i different j k d less inside =
    let low : k < i = omega (arith, length-take i names, inside) in
    λ same. different j k d less (omega (arith, length-take i names, inside))
    (sym (get_or-take i names j d (omega (arith, less, low))) ∙ (same ∙ get_or-take i names k d low))

-- the name that a list of texts has at a place
pub named : {A : Type 0} (f : A → List ℕ) (texts : List A) (i j : ℕ) (d : A) → i ≡ j → i < length texts → f (slice_index_or texts i d) ≡ slice_index_or (map f texts) j []
named f texts i j d same inside = subst (λ k. f (slice_index_or texts i d) ≡ slice_index_or (map f texts) k []) same (sym (get_or-map f texts i d [] inside))

pub different_named : {A : Type 0} (f : A → List ℕ) (texts : List A) (i : ℕ) → AreDifferent (map f texts) → AreDifferent (map f (take i texts))
different_named f texts i different = subst AreDifferent (take-map f i texts) (different_taken (map f texts) i different)
