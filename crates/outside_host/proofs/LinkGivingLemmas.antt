-- Links given back, the last one first.
use Rattle.std.proofs.Common.{zero, suc, append-nil, ◌≡◌, ◌⊎◌, ◌≤◌, ◌<◌, ◌+◌, ◌++◌, ◌∷◌, ℕ, List, [], length, refl, sym, ap, ◌∙◌, subst, arith, slice_index_or, length-append, append_assoc}
use mathlib.Core.Logic.{inl, inr}
use Rattle.std.proofs.lemmas.List.{get_or_at}
use Rattle.outside_host.specs.Shelf.{TakesBack}
use Rattle.outside_host.specs.declared.host.Place.{Place}
use Rattle.outside_host.specs.declared.host.Place.TheVariants.{Out, Back}
use Rattle.outside_host.specs.Links.{AreBack}

-- some are left, and those behind them came back
pub record IsGivingBack {L : Type 0} (old now : ℕ → Place L) (all left : List L) : Type 0 where
  pub behind : List L
  pub cut : all ≡ left ++ behind
  pub waiting : (place : ℕ) → place < length left → now place ≡ old place
  pub given : (place : ℕ) (d : L) → length left ≤ place → place < length all → old place ≡ Out → now place ≡ Back (slice_index_or all place d)
  pub others : (place : ℕ) → length all ≤ place → now place ≡ old place

pub none_given : {L : Type 0} (old : ℕ → Place L) (all : List L) → IsGivingBack old old all all
none_given old all = record {
  behind = [];
  cut = sym (append-nil all);
  waiting = λ place less. refl;
  given = λ place d least less. absurd (omega (arith, least, less));
  others = λ place least. refl;
}

-- a place is this one, or another
pub same_place : (a b : ℕ) → (a ≡ b) ⊎ (a ≡ b → ⊥)
same_place zero zero = inl refl
same_place zero (suc b) = inr (λ e. omega (arith, e))
same_place (suc a) zero = inr (λ e. omega (arith, e))
same_place (suc a) (suc b) = above (same_place a b)
  where
    above : (a ≡ b) ⊎ (a ≡ b → ⊥) → (suc a ≡ suc b) ⊎ (suc a ≡ suc b → ⊥)
    above (inl e) = inl (ap suc e)
    above (inr other) = inr (λ e. other (omega (arith, e)))

at_place : {L : Type 0} (left : List L) (link : L) (behind all : List L) (place : ℕ) (d : L) → all ≡ (left ++ link ∷ []) ++ behind → place ≡ length left
    → slice_index_or all place d ≡ link
at_place left link behind all place d cut is = rw (cut, append_assoc left (link ∷ []) behind, is) (get_or_at left link behind d (length left) refl)

pub one_given : {L : Type 0} (old now next : ℕ → Place L) (all had left : List L) (link : L) (place : ℕ) → had ≡ left ++ link ∷ [] → place ≡ length left
    → IsGivingBack old now all had → TakesBack now next place link → IsGivingBack old next all left
one_given {L} old now next all had left link place more is giving takes =
    let count : length had ≡ length left + 1 = ap length more ∙ length-append left (link ∷ []) in
    let cut : all ≡ (left ++ link ∷ []) ++ giving.behind = subst (λ h. all ≡ h ++ giving.behind) more giving.cut in
    record {
      behind = link ∷ giving.behind;
      cut = cut ∙ append_assoc left (link ∷ []) giving.behind;
      waiting = λ p less. takes.others p (λ e. omega (arith, less, is, e)) ∙ giving.waiting p (omega (arith, less, count));
      given = λ p d least less out. by_place p d least less out (same_place p place) cut count;
      others = λ p least. takes.others p (λ e. omega (arith, least, is, e, ap length cut, length-append (left ++ link ∷ []) giving.behind, length-append left (link ∷ []))) ∙ giving.others p least;
    }
  where
    by_place : (p : ℕ) (d : L) → length left ≤ p → p < length all → old p ≡ Out → (p ≡ place) ⊎ (p ≡ place → ⊥) → all ≡ (left ++ link ∷ []) ++ giving.behind → length had ≡ length left + 1
        → next p ≡ Back (slice_index_or all p d)
    by_place p d least less out (inl same) cut count =
        subst (λ q. next q ≡ Back (slice_index_or all p d)) (sym same)
        (takes.now (subst (λ q. now q ≡ Out) same (giving.waiting p (omega (arith, same, is, count)) ∙ out)) ∙ ap Back (sym (at_place left link giving.behind all p d cut (same ∙ is))))
    by_place p d least less out (inr other) cut count =
        takes.others p other ∙ giving.given p d (omega (arith, least, is, other, count)) less out

pub all_given : {L : Type 0} (old now : ℕ → Place L) (all left : List L) → length left ≡ 0 → IsGivingBack old now all left → AreBack old now all
all_given old now all left none giving = record {
  now = λ place d less out. giving.given place d (omega (arith, none)) less out;
  others = λ place least. giving.others place least;
}
