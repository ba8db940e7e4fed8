-- Sinks given back, the last one first.
use Rattle.std.proofs.Common.{append-nil, ◌≡◌, ◌≢◌, ◌⊎◌, ◌≤◌, ◌<◌, ◌+◌, ◌++◌, ◌∷◌, ℕ, List, [], length, refl, sym, ap, ◌∙◌, subst, arith, slice_index_or, length-append, append_assoc}
use mathlib.Core.Logic.{inl, inr}
use Rattle.std.specs.List.{Contains}
use Rattle.std.proofs.lemmas.List.{get_or_at}
use Rattle.outside_host.specs.Shelf.{TakesBack}
use Rattle.outside_host.specs.declared.host.Place.{Place}
use Rattle.outside_host.specs.declared.host.Place.TheVariants.{Out, Back}
use Rattle.outside_host.specs.Sinks.{AreBack, AreDifferent, StayOthers}
use Rattle.outside_host.proofs.SinkNameLemmas.{apart, below, contains_at}

-- some are left, and those behind them came back
pub record IsGivingBack {O : Type 0} (old now : List ℕ → Place O) (names : List (List ℕ)) (all left : List O) : Type 0 where
  pub behind : List O
  pub count : length all ≡ length names
  pub cut : all ≡ left ++ behind
  pub waiting : (place : ℕ) → place < length left → now (slice_index_or names place []) ≡ old (slice_index_or names place [])
  pub given : (place : ℕ) (d : O) → length left ≤ place → place < length all → old (slice_index_or names place []) ≡ Out
      → now (slice_index_or names place []) ≡ Back (slice_index_or all place d)
  pub others : StayOthers old now names

pub none_given : {O : Type 0} (old : List ℕ → Place O) (names : List (List ℕ)) (all : List O) → length all ≡ length names → IsGivingBack old old names all all
none_given old names all count = record {
  behind = [];
  count = count;
  cut = sym (append-nil all);
  waiting = λ place less. refl;
  given = λ place d least less. absurd (omega (arith, least, less));
  others = λ name none. refl;
}

at_place : {O : Type 0} (left : List O) (sink : O) (behind all : List O) (place : ℕ) (d : O) → all ≡ (left ++ sink ∷ []) ++ behind → place ≡ length left
    → slice_index_or all place d ≡ sink
at_place left sink behind all place d cut is = rw (cut, append_assoc left (sink ∷ []) behind, is) (get_or_at left sink behind d (length left) refl)

pub one_given : {O : Type 0} (old now next : List ℕ → Place O) (names : List (List ℕ)) (all had left : List O) (sink : O) (name : List ℕ) → AreDifferent names
    → had ≡ left ++ sink ∷ [] → name ≡ slice_index_or names (length left) [] → IsGivingBack old now names all had → TakesBack now next name sink
    → IsGivingBack old next names all left
one_given {O} old now next names all had left sink name different more is giving takes =
    let count : length had ≡ length left + 1 = ap length more ∙ length-append left (sink ∷ []) in
    let cut : all ≡ (left ++ sink ∷ []) ++ giving.behind = subst (λ h. all ≡ h ++ giving.behind) more giving.cut in
    let inside : length left < length names = omega (arith, giving.count, ap length cut, length-append (left ++ sink ∷ []) giving.behind, length-append left (sink ∷ [])) in
    record {
      behind = sink ∷ giving.behind;
      count = giving.count;
      cut = cut ∙ append_assoc left (sink ∷ []) giving.behind;
      waiting = λ p less. takes.others (slice_index_or names p []) (other_name p inside (omega (arith, less, inside)) (λ e. omega (arith, e, less))) ∙ giving.waiting p (omega (arith, less, count));
      given = λ p d least less out. by_place p d inside (omega (arith, less, giving.count)) least less out (below (length left) p) cut count;
      others = λ n none. takes.others n (λ same. none (subst (Contains names) (sym (same ∙ is)) (contains_at names (length left) [] inside))) ∙ giving.others n none;
    }
  where
    other_name : (p : ℕ) → length left < length names → p < length names → (p ≡ length left → ⊥) → slice_index_or names p [] ≢ name
    other_name p inside less other = λ same. apart names p (length left) [] different less inside other (same ∙ is)

    by_place : (p : ℕ) (d : O) → length left < length names → p < length names → length left ≤ p → p < length all → old (slice_index_or names p []) ≡ Out
        → (length left < p) ⊎ (p ≤ length left) → all ≡ (left ++ sink ∷ []) ++ giving.behind → length had ≡ length left + 1
        → next (slice_index_or names p []) ≡ Back (slice_index_or all p d)
    by_place p d inside within least less out (inr most) cut count =
        let same : p ≡ length left = omega (arith, least, most) in
        let here : slice_index_or names p [] ≡ name = ap (λ q. slice_index_or names q []) same ∙ sym is in
        ap next here
        ∙ (takes.now (sym (ap now here) ∙ (giving.waiting p (omega (arith, same, count)) ∙ out)) ∙ ap Back (sym (at_place left sink giving.behind all p d cut same)))
    by_place p d inside within least less out (inl more) cut count =
        takes.others (slice_index_or names p []) (other_name p inside within (λ e. omega (arith, e, more))) ∙ giving.given p d (omega (arith, more, count)) less out

pub all_given : {O : Type 0} (old now : List ℕ → Place O) (names : List (List ℕ)) (all left : List O) → length left ≡ 0
    → IsGivingBack old now names all left → AreBack old now names all
all_given old now names all left none giving = record {
  now = λ place d less out. giving.given place d (omega (arith, none)) (omega (arith, less, giving.count)) out;
  others = giving.others;
}
