-- The first tear is one at most, and there is none exactly where the lists agree.
use Rattle.std.proofs.Common.{◌≡◌, ◌<◌, ◌≤◌, ◌↔◌, inl, inr, ℕ, zero, suc, List, [], ◌∷◌, ◌++◌, ◌==◌, length, take, slice_get, unwrap_or, Option, None, Some, refl, ap, sym, ◌∙◌, subst, arith}
use Rattle.std.proofs.lemmas.Bool.{cases_lt, cases_order}
use Rattle.std.proofs.lemmas.List.Elements.{filter-append}
use Rattle.std.proofs.lemmas.Option.{slice_get_past}
use Rattle.rist_desk.specs.declared.step.Step.{Step}
use Rattle.rist_compare.specs.declared.tear.Tear.{Tear}
use Rattle.rist_compare.specs.Tears.{of, own_of, IsTear, Agree, IsFirstTear}
use Rattle.rist_compare.proofs.TearLemmas.{of_other, of_at}

no_seam : (front rest : List Step) (s : Step) → front ++ s ∷ rest ≡ [] → ⊥
no_seam [] rest s e = cc (e)
no_seam (x ∷ front) rest s e = cc (e)

-- a list has no tear with itself
no_tear : (desk own : List Step) (t : Tear) → desk ≡ own → IsTear desk own t → ⊥
no_tear desk own t e is = is.differ (is.desk_is ∙ (ap (λ l. slice_get l t.place) e ∙ sym is.own_is))

get_front : (xs : List Step) (n i : ℕ) → i < n → slice_get (take n xs) i ≡ slice_get xs i
get_front xs zero i lt = absurd (omega (arith, lt))
get_front [] (suc n) i lt = refl
get_front (x ∷ xs) (suc n) zero lt = refl
get_front (x ∷ xs) (suc n) (suc i) lt = get_front xs n i (omega (arith, lt))

-- before a tear there is no other
none_before : (desk own : List Step) (t u : Tear) → IsTear desk own t → IsTear desk own u → t.place < u.place → ⊥
none_before desk own t u a b lt =
    a.differ (a.desk_is ∙ (sym (get_front desk u.place t.place lt) ∙ (ap (λ l. slice_get l t.place) b.same ∙ (get_front own u.place t.place lt ∙ sym a.own_is))))

one_place : (desk own : List Step) (t u : Tear) → IsTear desk own t → IsTear desk own u → t.place ≡ u.place
one_place desk own t u a b =
    elim (cases_order t.place u.place) [
      | inl e ↦ e
      | inr other ↦ elim other [ inl lt ↦ absurd (none_before desk own t u a b lt) | inr gt ↦ absurd (none_before desk own u t b a gt) ]
    ]

one_link : (steps : List Step) (own : List (List Step)) (t u : Tear) → IsFirstTear steps own t → IsFirstTear steps own u → t.link ≡ u.link
one_link steps own t u a b =
    elim (cases_order t.link u.link) [
      | inl e ↦ e
      | inr other ↦ elim other [ inl lt ↦ absurd (no_tear _ _ t (b.below t.link lt) a.here) | inr gt ↦ absurd (no_tear _ _ u (a.below u.link gt) b.here) ]
    ]

abbrev tear_of : ℕ → ℕ → Option Step → Option Step → Tear
tear_of link place desk own = record { link = link; place = place; desk = desk; own = own }

-- two tears of one link's lists
same_tear : (desk own : List Step) (t u : Tear) → t.link ≡ u.link → IsTear desk own t → IsTear desk own u → t ≡ u
same_tear desk own t u link a b =
    let place = one_place desk own t u a b in
    let desk_step : t.desk ≡ u.desk = a.desk_is ∙ (ap (slice_get desk) place ∙ sym b.desk_is) in
    let own_step : t.own ≡ u.own = a.own_is ∙ (ap (slice_get own) place ∙ sym b.own_is) in
    ap (λ l. tear_of l t.place t.desk t.own) link ∙ (ap (λ p. tear_of u.link p t.desk t.own) place ∙ (ap (λ d. tear_of u.link u.place d t.own) desk_step ∙ ap (λ o. tear_of u.link u.place u.desk o) own_step))

pub one_tear : (steps : List Step) (own : List (List Step)) (t u : Tear) → IsFirstTear steps own t → IsFirstTear steps own u → t ≡ u
one_tear steps own t u a b =
    let link = one_link steps own t u a b in
    let T : ℕ → Type 0 = λ l. IsTear (of l steps) (own_of l own) u in
    same_tear (of t.link steps) (own_of t.link own) t u link a.here (subst T (sym link) b.here)

-- ---- lists that agree

past_own : (own : List (List Step)) (link : ℕ) → length own ≤ link → own_of link own ≡ []
past_own own link le = ap (λ (o : Option (List Step)). unwrap_or o []) (slice_get_past own link le)

none_of : (steps : List Step) (link : ℕ) → ((k : ℕ) (s : Step) → slice_get steps k ≡ Some s → s.link < link) → of link steps ≡ []
none_of [] link h = refl
none_of (s ∷ steps) link h = filter-append (λ t. t.link == link) (s ∷ []) steps ∙ (ap (λ (x : List Step). x ++ of link steps) (of_other link s (h 0 s refl)) ∙ none_of steps link (λ k t is. h (suc k) t is))

on_each : (steps : List Step) (own : List (List Step)) → Agree steps own → (link : ℕ) → of link steps ≡ own_of link own
on_each steps own agree link =
    elim (cases_lt link (length own)) [
      | inl lt ↦ agree.same link lt
      | inr le ↦ none_of steps link (λ k s is. omega (arith, le, agree.links k s is)) ∙ sym (past_own own link le)
    ]

within : (steps : List Step) (own : List (List Step)) → ((link : ℕ) → of link steps ≡ own_of link own) → (k : ℕ) (s : Step) → slice_get steps k ≡ Some s → s.link < length own
within steps own all k s is =
    elim (cases_lt s.link (length own)) [
      | inl lt ↦ lt
      | inr le ↦
          (let at = of_at s.link steps k s is refl in
          absurd (no_seam (of s.link (take k steps)) at.0 s (sym at.1 ∙ (all s.link ∙ past_own own s.link le))))
    ]

agree_where : (steps : List Step) (own : List (List Step)) → ((link : ℕ) → of link steps ≡ own_of link own) → Agree steps own
agree_where steps own all = record { links = within steps own all; same = λ link lt. all link }

-- ---- what is answered

-- a tear of a link's lists, below which all agree
pub first_at : (steps : List Step) (own : List (List Step)) (link : ℕ) (t : Tear) → (t.link ≡ link) × IsTear (of link steps) (own_of link own) t
    → ((k : ℕ) → k < link → of k steps ≡ own_of k own) → IsFirstTear steps own t
first_at steps own link t at below =
    let T : ℕ → Type 0 = λ l. IsTear (of l steps) (own_of l own) t in
    record { here = subst T (sym at.0) at.1; below = λ k lt. below k (omega (arith, lt, at.0)) }

-- the lists of all links agree, where those of so many do, and of the others there are no steps and no workers
pub on_all : (steps : List Step) (own : List (List Step)) (count : ℕ) → length own ≤ count → ((k : ℕ) → count ≤ k → of k steps ≡ []) → ((k : ℕ) → k < count → of k steps ≡ own_of k own)
    → (link : ℕ) → of link steps ≡ own_of link own
on_all steps own count le none below link =
    elim (cases_lt link count) [
      | inl lt ↦ below link lt
      | inr past ↦ none link past ∙ sym (past_own own link (omega (arith, le, past)))
    ]

pub none_agrees : (steps : List Step) (own : List (List Step)) (answer : Option Tear) → answer ≡ None → ((link : ℕ) → of link steps ≡ own_of link own) → (answer ≡ None) ↔ Agree steps own
none_agrees steps own answer e all = (λ _. agree_where steps own all, λ _. e)

pub none_torn : (steps : List Step) (own : List (List Step)) (answer : Option Tear) → answer ≡ None → ((link : ℕ) → of link steps ≡ own_of link own) → (tear : Tear) → (answer ≡ Some tear) ↔ IsFirstTear steps own tear
none_torn steps own answer e all tear = (λ is. absurd (cc (e, is)), λ first. absurd (no_tear _ _ tear (all tear.link) first.here))

pub some_differs : (steps : List Step) (own : List (List Step)) (answer : Option Tear) (t : Tear) → answer ≡ Some t → IsFirstTear steps own t → (answer ≡ None) ↔ Agree steps own
some_differs steps own answer t e first = (λ is. absurd (cc (e, is)), λ agree. absurd (no_tear _ _ t (on_each steps own agree t.link) first.here))

pub some_first : (steps : List Step) (own : List (List Step)) (answer : Option Tear) (t : Tear) → answer ≡ Some t → IsFirstTear steps own t → (tear : Tear) → (answer ≡ Some tear) ↔ IsFirstTear steps own tear
some_first steps own answer t e first tear =
    let T : Tear → Type 0 = λ x. IsFirstTear steps own x in
    (λ is. subst T (cc (e, is)) first, λ other. e ∙ ap Some (one_tear steps own t tear first other))
