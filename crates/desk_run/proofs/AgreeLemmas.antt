-- The steps of each link are what its pass added.
use Rattle.std.proofs.Common.{◌≡◌, ◌⊎◌, inl, inr, ℕ, zero, suc, ◌<◌, ◌≤◌, ◌==◌, Bool, true, false, if◌then◌else◌, List, [], ◌∷◌, ◌++◌, length, reverse, slice_get, unwrap_or, Option, None, Some, refl, ap, sym, ◌∙◌, subst, eq-eqb, append-nil, arith}
use Rattle.std.proofs.lemmas.List.{reverse-reverse}
use Rattle.std.proofs.lemmas.List.Elements.{filter-append}
use Rattle.std.proofs.lemmas.Bool.{cases_lt}
use Rattle.turn_lock.specs.History.{added}
use Rattle.turn_lock.specs.declared.rule.Turn.{Turn}
use Rattle.turn_lock.specs.Turns.{entries, of}
use Rattle.rist_desk.specs.declared.step.Step.{Step}
use Rattle.rist_desk.proofs.ListLemmas.{reverse_more}
use Rattle.rist_compare.specs.Tears.{Agree, own_of}
use Rattle.rist_compare.specs.Tears as tears
use Rattle.turn_desk.specs.Own.{AreOf}

-- ---- one test

same_both : {A : Type 0} (b : Bool) (l : List A) → l ≡ (if b then l else l)
same_both true l = refl
same_both false l = refl

of_head : (link : ℕ) (b : Bool) (s : Step) (l : List Step) → b ≡ true → AreOf link (if b then s ∷ l else l) → s.link ≡ link
of_head link true s l e a = a.0
of_head link false s l e a = absurd (cc (e))

of_tail : (link : ℕ) (b : Bool) (s : Step) (l : List Step) → AreOf link (if b then s ∷ l else l) → AreOf link l
of_tail link true s l a = a.1
of_tail link false s l a = a

-- ---- one turn

-- what a turn of pass q adds to the turns of pass k
abbrev Adds : ℕ → Option Step → List (Turn Step) → ℕ → List Step
Adds q e ts k = if q == k then added e (of k ts) else of k ts

rest_of : (q : ℕ) (e : Option Step) (ts : List (Turn Step)) → ((k : ℕ) → AreOf k (Adds q e ts k)) → (k : ℕ) → AreOf k (of k ts)
rest_of q None ts h k = subst (AreOf k) (sym (same_both (q == k) (of k ts))) (h k)
rest_of q (Some s) ts h k = of_tail k (q == k) s (of k ts) (h k)

link_is : (q : ℕ) (s : Step) (ts : List (Turn Step)) → ((k : ℕ) → AreOf k (Adds q (Some s) ts k)) → s.link ≡ q
link_is q s ts h = of_head q (q == q) s (of q ts) (eq-eqb q q refl) (h q)

step : (q : ℕ) (e : Option Step) (ts : List (Turn Step)) → ((k : ℕ) → AreOf k (Adds q e ts k)) → ((k : ℕ) → tears.of k (entries ts) ≡ of k ts)
    → (k : ℕ) → tears.of k (added e (entries ts)) ≡ Adds q e ts k
step q None ts h ih k = ih k ∙ same_both (q == k) (of k ts)
step q (Some s) ts h ih k =
    ap (λ (n : ℕ). if n == k then s ∷ tears.of k (entries ts) else tears.of k (entries ts)) (link_is q s ts h)
    ∙ ap (λ (l : List Step). if q == k then s ∷ l else l) (ih k)

-- the steps of each link are what its pass added
by_link : (turns : List (Turn Step)) → ((k : ℕ) → AreOf k (of k turns)) → (k : ℕ) → tears.of k (entries turns) ≡ of k turns
by_link [] h k = refl
by_link (t ∷ ts) h k = step t.pass t.entry ts h (by_link ts (rest_of t.pass t.entry ts h)) k

-- ---- the oldest first

reverse_first : (x : Step) (l : List Step) → reverse (x ∷ l) ≡ reverse l ++ x ∷ []
reverse_first x l =
    ap (λ (m : List Step). reverse (x ∷ m)) (sym (reverse-reverse l))
    ∙ (ap (λ (m : List Step). reverse m) (sym (reverse_more (reverse l) x)) ∙ reverse-reverse (reverse l ++ x ∷ []))

one_turned : (b : Bool) (x : Step) (l : List Step) → reverse l ++ (if b then x ∷ [] else []) ≡ reverse (if b then x ∷ l else l)
one_turned true x l = sym (reverse_first x l)
one_turned false x l = append-nil (reverse l)

of_turned : (link : ℕ) (l : List Step) → tears.of link (reverse l) ≡ reverse (tears.of link l)
of_turned link [] = refl
of_turned link (x ∷ l) =
    ap (λ (m : List Step). tears.of link m) (reverse_first x l)
    ∙ (filter-append (λ (s : Step). s.link == link) (reverse l) (x ∷ [])
    ∙ (ap (λ (m : List Step). m ++ tears.of link (x ∷ [])) (of_turned link l)
    ∙ one_turned (x.link == link) x (tears.of link l)))

-- ---- each link has a pass

abbrev Below : ℕ → List Step → Type 0
Below n [] = Unit {0}
Below n (s ∷ l) = (s.link < n) × Below n l

below_both : (n : ℕ) (l m : List Step) → Below n l → Below n m → Below n (l ++ m)
below_both n [] m a b = b
below_both n (s ∷ l) m a b = (a.0, below_both n l m a.1 b)

below_turned : (n : ℕ) (l : List Step) → Below n l → Below n (reverse l)
below_turned n [] a = tt
below_turned n (s ∷ l) a = subst (Below n) (sym (reverse_first s l)) (below_both n (reverse l) (s ∷ []) (below_turned n l a.1) (a.0, tt))

below_at : (n : ℕ) (l : List Step) (k : ℕ) (s : Step) → Below n l → slice_get l k ≡ Some s → s.link < n
below_at n [] k s a e = absurd (cc (e))
below_at n (x ∷ l) zero s a e = let same : x ≡ s = cc (e) in subst (λ (y : Step). y.link < n) same a.0
below_at n (x ∷ l) (suc k) s a e = below_at n l k s a.1 e

-- passes from n on added nothing
abbrev NoneFrom : ℕ → (ℕ → List Step) → Type 0
NoneFrom n added_by = (k : ℕ) → n ≤ k → added_by k ≡ []

tail_none : (b : Bool) (s : Step) (l : List Step) → (if b then s ∷ l else l) ≡ [] → l ≡ []
tail_none true s l e = absurd (cc (e))
tail_none false s l e = e

rest_none : (n q : ℕ) (e : Option Step) (ts : List (Turn Step)) → NoneFrom n (Adds q e ts) → NoneFrom n (λ k. of k ts)
rest_none n q None ts none k more = same_both (q == k) (of k ts) ∙ none k more
rest_none n q (Some s) ts none k more = tail_none (q == k) s (of k ts) (none k more)

some_added : (b : Bool) (s : Step) (l : List Step) → b ≡ true → (if b then s ∷ l else l) ≡ [] → ⊥
some_added true s l e f = cc (f)
some_added false s l e f = cc (e)

pass_below : (n q : ℕ) (s : Step) (ts : List (Turn Step)) → NoneFrom n (Adds q (Some s) ts) → q < n
pass_below n q s ts none = by_order (cases_lt q n)
  where
    by_order : (q < n) ⊎ (n ≤ q) → q < n
    by_order (inl less) = less
    by_order (inr more) = absurd (some_added (q == q) s (of q ts) (eq-eqb q q refl) (none q more))

below_with : (n q : ℕ) (e : Option Step) (ts : List (Turn Step)) → NoneFrom n (Adds q e ts) → ((k : ℕ) → AreOf k (Adds q e ts k)) → Below n (entries ts) → Below n (added e (entries ts))
below_with n q None ts none h b = b
below_with n q (Some s) ts none h b = (subst (λ (x : ℕ). x < n) (sym (link_is q s ts h)) (pass_below n q s ts none), b)

below : (n : ℕ) (turns : List (Turn Step)) → NoneFrom n (λ k. of k turns) → ((k : ℕ) → AreOf k (of k turns)) → Below n (entries turns)
below n [] none h = tt
below n (t ∷ ts) none h = below_with n t.pass t.entry ts none h (below n ts (rest_none n t.pass t.entry ts none) (rest_of t.pass t.entry ts h))

-- ---- together

own_at : (own : List (List Step)) (link : ℕ) (o : Option (List Step)) → slice_get own link ≡ o → link < length own → (l : List Step) × (slice_get own link ≡ Some l) × (own_of link own ≡ l)
own_at own link None e less = absurd (gone own link less e)
  where
    gone : (xs : List (List Step)) (i : ℕ) → i < length xs → slice_get xs i ≡ None → ⊥
    gone [] i less e = omega (arith, less)
    gone (x ∷ xs) zero less e = cc (e)
    gone (x ∷ xs) (suc i) less e = gone xs i (omega (arith, less)) e
own_at own link (Some l) e less = (l, e, ap (λ (o : Option (List Step)). unwrap_or o []) e)

pub agrees : (turns : List (Turn Step)) (own : List (List Step))
    → ((k : ℕ) → length own ≤ k → of k turns ≡ [])
    → ((k : ℕ) (l : List Step) → slice_get own k ≡ Some l → l ≡ reverse (of k turns))
    → ((k : ℕ) → AreOf k (of k turns))
    → Agree (reverse (entries turns)) own
agrees turns own none owned h =
    record {
      links = λ k s e. below_at (length own) (reverse (entries turns)) k s (below_turned (length own) (entries turns) (below (length own) turns none h)) e;
      same = λ link less.
          let there = own_at own link (slice_get own link) refl less in
          of_turned link (entries turns) ∙ (ap (λ (l : List Step). reverse l) (by_link turns h link) ∙ (sym (owned link there.0 there.1) ∙ sym there.2));
    }
