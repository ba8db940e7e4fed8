-- Passes as they are dealt out, and their places in a list.
use Rattle.std.proofs.Common.{◌≡◌, ℕ, suc, ◌+◌, ◌-◌, ◌<◌, List, [], ◌∷◌, ◌++◌, length, sym, ap, ◌∙◌, subst, ⊎_elim, arith, length-append, slice_get, Some, zero}
use mathlib.Core.Option.{some, some-ne-none, some-injective}
use lib.ListN.{get_elem?}
use Rattle.atomic_table.specs.Seated.{TableId}
use Rattle.turn_lock.specs.declared.pass.Pass.{Pass}
use Rattle.turn_lock.specs.declared.rule.View.{View}
use Rattle.turn_lock.specs.Turns.{opener_at, fresh, others, one_off}
use Rattle.turn_lock.specs.declared.lock.TurnLock.{TurnLock}
use Rattle.turn_lock.specs.Passes.{AreFresh, passes_of, first_of}
use Rattle.turn_lock.specs.Inside.Dealing.{AreDealt}
use Rattle.turn_lock.proofs.Steps.{at_end, cut_others, cut_off, last_off}

module _ {A : Type 0} where
  -- what stands at a place, in both words
  pub at_place : (l : List A) (k : ℕ) (a : A) → slice_get l k ≡ Some a → get_elem? l k ≡ some a
  at_place [] k a e = absurd (cc (e))
  at_place (x ∷ xs) zero a e = let same : x ≡ a = cc (e) in ap (λ (y : A). some y) same
  at_place (x ∷ xs) (suc k) a e = at_place xs k a e

  pub to_place : (l : List A) (k : ℕ) (a : A) → get_elem? l k ≡ some a → slice_get l k ≡ Some a
  to_place [] k a e = absurd (some-ne-none a (sym e))
  to_place (x ∷ xs) zero a e = ap (λ (y : A). Some y) (some-injective x a e)
  to_place (x ∷ xs) (suc k) a e = to_place xs k a e

module _ {E X : Type 0} where
  pub none_fresh : (t : TableId) (ps : List (Pass E X)) → ps ≡ [] → AreDealt t 0 ps
  none_fresh t ps is = record { all = ap length is; each = λ k p e. absurd (some-ne-none p (sym (subst (λ (z : List (Pass E X)). get_elem? z k ≡ some p) is e))) }

  pub one_more : (t : TableId) (k : ℕ) (ps qs : List (Pass E X)) (p : Pass E X) → AreDealt t k ps → p.seat.table_id ≡ t → p.seat.me.0 ≡ fresh k → qs ≡ ps ++ p ∷ [] → AreDealt t (k + 1) qs
  one_more t k ps qs p f own is more = subst (AreDealt t (k + 1)) (sym more) record {
    all = let a = f.all in let b : length (ps ++ p ∷ []) ≡ length ps + length (p ∷ []) = length-append ps (p ∷ []) in omega arith;
    each = λ j q e. ⊎_elim (λ h. f.each j q h) (λ (h : (j ≡ length ps) × (p ≡ q)). subst (λ (z : ℕ × Pass E X). (z.1.seat.table_id ≡ t) × (z.1.seat.me.0 ≡ fresh z.0)) (λ i. (sym (h.0 ∙ f.all) i, h.1 i)) (own, is)) (at_end ps p q j e);
  }

module _ {E : Type 0} where
  pub other_is : (v : View E) (count k : ℕ) → k + 1 < count → v ≡ opener_at k (count - k) → one_off v ≡ fresh k
  other_is v count k more is = let n : count - k ≡ suc (count - (k + 1)) = omega arith in ap one_off (is ∙ ap (opener_at k) n) ∙ cut_off k (count - (k + 1))

  pub seat_is : (v : View E) (count k : ℕ) → k + 1 < count → v ≡ opener_at k (count - k) → others v ≡ opener_at (k + 1) (count - (k + 1))
  seat_is v count k more is = let n : count - k ≡ suc (count - (k + 1)) = omega arith in ap others (is ∙ ap (opener_at k) n) ∙ cut_others k (count - (k + 1))

  pub last_is : (v : View E) (count k : ℕ) → k + 1 ≡ count → v ≡ opener_at k (count - k) → v ≡ fresh k
  last_is v count k all is = let n : count - k ≡ 1 = omega arith in is ∙ ap (opener_at k) n ∙ last_off k

module _ {E X : Type 0} where
  pub are_fresh : (lock : TurnLock E X) (ps : List (Pass E X)) (count : ℕ) → passes_of lock ≡ count → AreDealt lock.table.shared.table_id count ps → AreFresh lock ps
  are_fresh lock ps count is dealt = record {
    all = dealt.all ∙ sym is;
    each = λ k p e. let mine = dealt.each k p (at_place ps k p e) in record {
      own = mine.0;
      number_is = ap (λ (v : View E). v.first) mine.1;
      left = ap (λ (v : View E). v.left) mine.1;
      seen = ap (λ (v : View E). v.seen) mine.1;
      added_nothing = ap (λ (v : View E). first_of v.owns) mine.1;
    };
  }
