-- Passes as they come back.
use Rattle.std.proofs.Common.{◌≡◌, ℕ, zero, suc, ◌+◌, ◌<◌, List, [], ◌∷◌, ◌++◌, length, sym, ap, ◌∙◌, subst, arith, refl, append-nil, length-append, ◌≤◌, ◌==◌, Bool, true, false, if◌then◌else◌, ne_eqb, Option, Some, None}
use mathlib.Core.Option.{some, some-ne-none, some-injective}
use lib.ListN.{get_elem?}
use Rattle.atomic_table.specs.Seated.{TableId}
use Rattle.atomic_table.specs.Table.{Joins, Final, Seen}
use Rattle.atomic_table.specs.declared.shared.Seat.{Seat}
use Rattle.atomic_table.proofs.Lists.{at_last, at_longer}
use Rattle.turn_lock.specs.declared.pass.Pass.{Pass}
use Rattle.turn_lock.specs.declared.rule.Turn.{Turn}
use Rattle.turn_lock.specs.declared.rule.View.{View}
use Rattle.turn_lock.specs.History.{added}
use Rattle.turn_lock.specs.Turns.{Kept, joined, ended, of}
use Rattle.turn_lock.specs.declared.lock.TurnLock.{TurnLock}
use Rattle.turn_lock.specs.Passes.{AreAll, IsClosed, passes_of, first_of}
use Rattle.turn_lock.specs.Inside.Dealing.{AreBack, AreJoined, Gathers, HasAll, owns_of, seen_of}
use Rattle.turn_lock.proofs.Dealt.{at_place, to_place}
use Rattle.turn_lock.proofs.Steps.{joins, ends}

module _ {E : Type 0} where
  single : (ls : List (List E)) → length ls ≡ 1 → (l : List E) × (ls ≡ l ∷ [])
  single [] e = absurd (omega arith)
  single (l ∷ []) e = (l, refl)
  single (l ∷ m ∷ ls) e = absurd (omega arith)

module _ {E X : Type 0} where
  longer : (rest gone : List (Pass E X)) (p : Pass E X) → (rest ++ p ∷ []) ++ gone ≡ rest ++ p ∷ gone
  longer [] gone p = refl
  longer (q ∷ rest) gone p = ap (λ z. q ∷ z) (longer rest gone p)

  there : (all rest gone : List (Pass E X)) (p : Pass E X) → all ≡ rest ++ p ∷ gone → get_elem? all (length rest) ≡ some p
  there all rest gone p is = subst (λ (z : List (Pass E X)). get_elem? z (length rest) ≡ some p) (longer rest gone p ∙ sym is) (at_longer (rest ++ p ∷ []) gone (length rest) p (at_last rest p (length rest) refl))

  pub gathers_one : (t : TableId) (count : ℕ) (all rest : List (Pass E X)) (p : Pass E X) → AreBack t count all → all ≡ rest ++ p ∷ [] → Gathers t all rest p.seat
  gathers_one t count all rest p a is = let mine = a.each (length rest) p (there all rest [] p is) in record {
    gone = p ∷ [];
    cut = is;
    own = mine.0;
    bare = p.idle.1;
    view = record { idle = p.idle.0; first = mine.1; owns = sym (append-nil p.seat.me.0.owns); saw = ap (λ z. p.seat.me.0.seen ∷ z) p.idle.3 };
  }

  pub gathers_more : (t : TableId) (count : ℕ) (all left rest : List (Pass E X)) (p : Pass E X) (s s' : Seat (Option X) (View E)) → AreBack t count all → Gathers t all left s → left ≡ rest ++ p ∷ []
      → s'.table_id ≡ s.table_id → s'.me ≡ (joined s.me.0 p.seat.me.0, s.me.1) → Gathers t all rest s'
  gathers_more t count all left rest p s s' a g is same now =
      let cut : all ≡ rest ++ p ∷ g.gone = g.cut ∙ ap (λ z. z ++ g.gone) is ∙ longer rest g.gone p in
      let mine = a.each (length rest) p (there all rest g.gone p cut) in
      let view = ap (λ m. m.0) now in record {
        gone = p ∷ g.gone;
        cut = cut;
        own = same ∙ g.own;
        bare = ap (λ m. m.1) now ∙ g.bare;
        view = subst (HasAll (length rest) (p ∷ g.gone)) (sym view)
            record { idle = g.view.idle; first = mine.1; owns = ap (λ z. p.seat.me.0.owns ++ z) g.view.owns; saw = ap (λ z. p.seat.me.0.seen ∷ z) g.view.saw };
      }

  pub same_table : (t : TableId) (count : ℕ) (all left rest : List (Pass E X)) (p : Pass E X) (s : Seat (Option X) (View E)) → AreBack t count all → Gathers t all left s → left ≡ rest ++ p ∷ [] → p.seat.table_id ≡ t
  same_table t count all left rest p s a g is = (a.each (length rest) p (there all rest g.gone p (g.cut ∙ ap (λ z. z ++ g.gone) is ∙ longer rest g.gone p))).0

  length_owns : (ps : List (Pass E X)) → length (owns_of ps) ≡ length ps
  length_owns [] = refl
  length_owns (p ∷ ps) = let a = length_owns ps in let b = p.idle.2 in let c : length (p.seat.me.0.owns ++ owns_of ps) ≡ length p.seat.me.0.owns + length (owns_of ps) = length-append p.seat.me.0.owns (owns_of ps) in omega arith

  abbrev Owns : List (Pass E X) → ℕ → Pass E X → Type 0
  Owns ps k p = (l : List E) × (p.seat.me.0.owns ≡ l ∷ []) × (get_elem? (owns_of ps) k ≡ some l)

  owned : (ps : List (Pass E X)) (k : ℕ) (p : Pass E X) → get_elem? ps k ≡ some p → Owns ps k p
  owned [] k p e = absurd (some-ne-none p (sym e))
  owned (q ∷ ps) zero p e = subst (Owns (q ∷ ps) zero) (some-injective q p e) (let s = single q.seat.me.0.owns q.idle.2 in (s.0, s.1, ap (λ (z : List (List E)). get_elem? (z ++ owns_of ps) 0) s.1))
  owned (q ∷ ps) (suc k) p e = let r = owned ps k p e in let s = single q.seat.me.0.owns q.idle.2 in
      (r.0, r.1, ap (λ (z : List (List E)). get_elem? (z ++ owns_of ps) (suc k)) s.1 ∙ r.2)

  seen_at : (ps : List (Pass E X)) (k : ℕ) (p : Pass E X) → get_elem? ps k ≡ some p → get_elem? (seen_of ps) k ≡ some p.seat.me.0.seen
  seen_at [] k p e = absurd (some-ne-none p (sym e))
  seen_at (q ∷ ps) zero p e = ap (λ (z : Pass E X). some z.seat.me.0.seen) (some-injective q p e)
  seen_at (q ∷ ps) (suc k) p e = seen_at ps k p e

module _ {E : Type 0} where
  -- passes that have no number took no turn
  none_with : (b : Bool) (e : Option E) (l : List E) → b ≡ false → l ≡ [] → (if b then added e l else l) ≡ []
  none_with true e l not is = absurd (cc (not))
  none_with false e l not is = is

  none_of : (count k : ℕ) (turns : List (Turn E)) → count ≤ k → ((i : ℕ) (t : Turn E) → get_elem? turns i ≡ some t → t.pass < count) → of k turns ≡ []
  none_of count k [] more named = refl
  none_of count k (t ∷ ts) more named =
      let low = named 0 t refl in
      none_with (t.pass == k) t.entry (of k ts) (ne_eqb t.pass k (λ e. let same : t.pass ≡ k = e in omega (arith, low, more))) (none_of count k ts more (λ i u at. named (suc i) u at))

module _ {E X : Type 0} where
  pub all_back : (lock : TurnLock E X) (ps : List (Pass E X)) → AreAll lock ps → AreBack lock.table.shared.table_id (passes_of lock) ps
  all_back lock ps a = record { all = a.all; each = λ k p e. a.each k p (to_place ps k p e) }

module _ {E X : Type 0} (stands : X → List E → Type 0) (count : ℕ) where
  pub joins_more : (t : TableId) (all left rest : List (Pass E X)) (p : Pass E X) (s : Seat (Option X) (View E)) → AreBack t count all → Gathers t all left s → left ≡ rest ++ p ∷ []
      → Joins (Kept stands count) s.id s.me.0 p.seat.id p.seat.me.0 (joined s.me.0 p.seat.me.0) ended
  joins_more t all left rest p s a g is =
      let cut : all ≡ rest ++ p ∷ g.gone = g.cut ∙ ap (λ z. z ++ g.gone) is ∙ longer rest g.gone p in
      let mine = a.each (length rest) p (there all rest g.gone p cut) in
      let long : length left ≡ length rest + 1 = ap length is ∙ length-append rest (p ∷ []) in
      let low : s.me.0.first ≡ length left = g.view.first in
      let high : p.seat.me.0.first ≡ length rest = mine.1 in
      let one : length p.seat.me.0.owns ≡ 1 = p.idle.2 in
      joins stands count s.id s.me.0 p.seat.id p.seat.me.0 g.view.idle p.idle.0 (omega arith)

  pub closes : (t : TableId) (ps : List (Pass E X)) (s : Seat (Option X) (View E)) (ws : List ℕ) (xs : List (Option X)) (d : Option X) → 0 < count → AreBack t count ps → AreJoined t ps s
      → get_elem? xs 0 ≡ some d → Final (Seen (Kept stands count) s.id s.me.0) ws xs → (x : X) × (d ≡ Some x) × IsClosed stands ps x
  closes t ps s ws xs d some_pass a j slot f =
      let long : length s.me.0.owns ≡ count = ap length j.view.owns ∙ length_owns ps ∙ a.all in
      let e = ends stands count s.id s.me.0 ws xs d j.view.idle j.view.first long some_pass slot f in
      let c = e.2 in (
        e.0,
        e.1,
        record {
          turns = c.turns;
          stood = c.stood;
          own = λ k p is. let o = owned ps k p (at_place ps k p is) in
              ap first_of o.1 ∙ sym (c.own k o.0 (ap (λ (z : List (List E)). get_elem? z k) j.view.owns ∙ o.2));
          others = λ k more. none_of count k c.turns (subst (λ (n : ℕ). n ≤ k) a.all more) c.named;
          saw = λ k p is. c.saw k p.seat.me.0.seen (ap (λ z. get_elem? z k) j.view.saw ∙ seen_at ps k p (at_place ps k p is));
        },
      )

abbrev pub value_or : {X : Type 0} → X → Option X → X
value_or d (Some x) = x
value_or d None = d

pub not_none : {X : Type 0} (o : Option X) (x : X) → o ≡ Some x → o ≡ None → ⊥
not_none o x a b = cc
