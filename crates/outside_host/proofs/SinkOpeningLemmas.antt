-- Sinks opened one after another.
use Rattle.std.proofs.Common.{zero, suc, map, take, ◌≡◌, ◌≢◌, ◌⊎◌, ◌≤◌, ◌<◌, ◌+◌, ◌++◌, ◌∷◌, ℕ, List, [], length, refl, sym, ap, ◌∙◌, subst, arith, slice_index_or, length-append, length-take}
use mathlib.Core.Logic.{inl, inr}
use Rattle.std.specs.List.{All, Contains}
use Rattle.std.proofs.lemmas.List.{get_or_at, get_or_append_left, get_or_default, get_or-take, length-map, take-map, take_all, take_more}
use Rattle.std.proofs.lemmas.List.Elements.{All-append, Contains-append_left, Contains-push}
use Rattle.outside_host.specs.declared.host.Place.{Place}
use Rattle.outside_host.specs.declared.host.Place.TheVariants.{Here, Out, Back}
use Rattle.outside_host.specs.Sinks.{AreAsTheyWere, AreBack, AreDifferent, AreOpenedInOrder, AreOut, IsAsItWas, StayOthers}
use Rattle.outside_host.specs.Inside.Sinks.{IsNextOut, StaysClosed}
use Rattle.outside_host.proofs.SinkNameLemmas.{among, below, contains_at, contains_taken, is_new, named, same_name}

pub none_out : {O : Type 0} (old : List ℕ → Place O) → AreOut old old [] []
none_out old = record {
  was = λ place d less. absurd (omega (arith, less));
  now = λ place d less. absurd (omega (arith, less));
  others = λ name none. refl;
}

only : {X : Type 0} (P : X → Type 0) (x : X) → P x → All P (x ∷ [])
only P x is zero d less = is
only P x is (suc k) d less = absurd (omega (arith, less))

behind : {O : Type 0} (old now next : List ℕ → Place O) (names : List (List ℕ)) (name : List ℕ) (had has : List O) → length had ≡ length names
    → (Contains names name → ⊥) → AreOut old now names had → IsNextOut now next name had has → AreOut old next (names ++ name ∷ []) has
behind {O} old now next names name had has as_many new out more =
    record {
      was = λ p d less. subst (λ ls. old (slice_index_or (names ++ name ∷ []) p []) ≡ Here (slice_index_or ls p d)) (sym more.more)
          (was p d (below p (length names)) (omega (arith, less, length-append names (name ∷ []))));
      now = All-append (λ n. next n ≡ Out) names (name ∷ []) (λ p d less. is_out p d less) (only (λ n. next n ≡ Out) name more.hands.now);
      others = λ n none. more.hands.others n (λ same. none (subst (Contains (names ++ name ∷ [])) (sym same) (Contains-push names name)))
          ∙ out.others n (λ there. none (Contains-append_left names (name ∷ []) n there));
    }
  where
    was : (p : ℕ) (d : O) → (p < length names) ⊎ (length names ≤ p) → p < length names + 1
        → old (slice_index_or (names ++ name ∷ []) p []) ≡ Here (slice_index_or (had ++ more.sink ∷ []) p d)
    was p d (inl less) within =
        rw (get_or_append_left names (name ∷ []) [] p less, get_or_append_left had (more.sink ∷ []) d p (omega (arith, less, as_many))) (out.was p d less)
    was p d (inr least) within =
        let here : length names ≡ p = omega (arith, least, within) in
        rw (get_or_at names name [] [] p here, get_or_at had more.sink [] d p (as_many ∙ here)) (sym (out.others name new) ∙ more.hands.was)

    is_out : (p : ℕ) (d : List ℕ) → p < length names → next (slice_index_or names p d) ≡ Out
    is_out p d less =
        more.hands.others (slice_index_or names p d) (λ same. new (subst (Contains names) same (contains_at names p d less))) ∙ out.now p d less

pub one_out : {O : Type 0} (old now next : List ℕ → Place O) (names : List (List ℕ)) (name : List ℕ) (i : ℕ) (had has : List O) → AreDifferent names → i < length names
    → length had ≡ i → name ≡ slice_index_or names i [] → AreOut old now (take i names) had → IsNextOut now next name had has → AreOut old next (take (i + 1) names) has
one_out old now next names name i had has different inside count is out more =
    let so_far : length had ≡ length (take i names) = omega (arith, count, inside, length-take i names) in
    let more_here : IsNextOut now next (slice_index_or names i []) had has = subst (λ n. IsNextOut now next n had has) is more in
    subst (λ ns. AreOut old next ns has) (sym (take_more names i [] inside))
    (behind old now next (take i names) (slice_index_or names i []) had has so_far (is_new names i i [] different (omega arith) inside) out more_here)

-- ---- where the sink of one name can't be opened

-- those before it came back, it is as it was, and all others stand as they stood
pub record IsClosedAgain {O : Type 0} (old new : List ℕ → Place O) (names : List (List ℕ)) (i : ℕ) : Type 0 where
  pub inside : i < length names
  pub came : (place : ℕ) → place < i → (sink : O) × (old (slice_index_or names place []) ≡ Here sink) × (new (slice_index_or names place []) ≡ Back sink)
  pub here : IsAsItWas (old (slice_index_or names i [])) (new (slice_index_or names i []))
  pub rest : (n : List ℕ) → (Contains (take i names) n → ⊥) → n ≢ slice_index_or names i [] → new n ≡ old n

came_back : {O : Type 0} (old now after new : List ℕ → Place O) (names : List (List ℕ)) (i : ℕ) (sinks : List O) → AreDifferent names → i < length names → length sinks ≡ i
    → AreOut old now (take i names) sinks → StaysClosed now after (slice_index_or names i []) → AreBack after new (take i names) sinks
    → (place : ℕ) → place < i → (sink : O) × (old (slice_index_or names place []) ≡ Here sink) × (new (slice_index_or names place []) ≡ Back sink)
came_back old now after new names i [] different inside count out stay back place less = absurd (omega (arith, count, less))
came_back old now after new names i (sink ∷ sinks) different inside count out stay back place less =
    let within : place < length (take i names) = omega (arith, less, inside, length-take i names) in
    let here : slice_index_or (take i names) place [] ≡ slice_index_or names place [] = get_or-take i names place [] less in
    let was_out : now (slice_index_or names place []) ≡ Out = subst (λ n. now n ≡ Out) here (out.now place [] within) in
    let is_out : after (slice_index_or names place []) ≡ Out = stay.others (slice_index_or names place []) (different place i [] less inside) ∙ was_out in (
      slice_index_or (sink ∷ sinks) place sink,
      subst (λ n. old n ≡ Here (slice_index_or (sink ∷ sinks) place sink)) here (out.was place sink within),
      subst (λ n. new n ≡ Back (slice_index_or (sink ∷ sinks) place sink)) here (back.now place sink within (subst (λ n. after n ≡ Out) (sym here) is_out)),
    )

pub closed_again : {O : Type 0} (old now after new : List ℕ → Place O) (names : List (List ℕ)) (name : List ℕ) (i : ℕ) (sinks : List O) → AreDifferent names
    → i < length names → length sinks ≡ i → name ≡ slice_index_or names i [] → AreOut old now (take i names) sinks → StaysClosed now after name
    → AreBack after new (take i names) sinks → IsClosedAgain old new names i
closed_again old now after new names name i sinks different inside count is out stay back =
    let closed : StaysClosed now after (slice_index_or names i []) = subst (StaysClosed now after) is stay in
    let fresh = is_new names i i [] different (omega arith) inside in
    record {
      inside = inside;
      came = came_back old now after new names i sinks different inside count out closed back;
      here = subst (λ p. IsAsItWas p (new (slice_index_or names i []))) (out.others (slice_index_or names i []) fresh)
          (subst (λ p. IsAsItWas (now (slice_index_or names i [])) p) (sym (back.others (slice_index_or names i []) fresh)) closed.here);
      rest = λ n none other. back.others n none ∙ (closed.others n other ∙ out.others n none);
    }

-- likewise of the names that a list of texts has
pub closed_named : {A O : Type 0} (f : A → List ℕ) (texts : List A) (d : A) (i count : ℕ) (old now after new : List ℕ → Place O) (had has : List O) → AreDifferent (map f texts)
    → i < length texts → length had ≡ i → AreOut old now (take i (map f texts)) had → StaysClosed now after (f (slice_index_or texts i d)) → has ≡ had → count ≡ i
    → AreBack after new (map f (take count texts)) has → IsClosedAgain old new (map f texts) i
closed_named f texts d i count old now after new had has different inside as_many out stay kept same back =
    closed_again old now after new (map f texts) (f (slice_index_or texts i d)) i had different (omega (arith, inside, length-map texts f)) as_many (named f texts i i d refl inside)
    out stay (subst (AreBack after new (take i (map f texts))) kept
    (subst (λ names. AreBack after new names has) (ap (λ k. map f (take k texts)) same ∙ sym (take-map f i texts)) back))

pub all_as_they_were : {O : Type 0} (old new : List ℕ → Place O) (names : List (List ℕ)) (i : ℕ) → IsClosedAgain old new names i → AreAsTheyWere old new
all_as_they_were {O} old new names i closed n = by_name (among (take i names) n) (same_name n (slice_index_or names i []))
  where
    by_name : Contains (take i names) n ⊎ (Contains (take i names) n → ⊥) → (n ≡ slice_index_or names i []) ⊎ (n ≢ slice_index_or names i []) → IsAsItWas (old n) (new n)
    by_name (inl there) other =
        let count : there.0 < length (take i names) = there.1 in
        let less : there.0 < i = omega (arith, length-take i names, count) in
        let inside : there.0 < length names = omega (arith, length-take i names, count) in
        let is : slice_index_or names there.0 [] ≡ n = get_or_default names there.0 [] n inside ∙ (sym (get_or-take i names there.0 n less) ∙ there.2) in
        inr (subst (λ m. (sink : O) × (old m ≡ Here sink) × (new m ≡ Back sink)) is (closed.came there.0 less))
    by_name (inr none) (inl same) = subst (λ m. IsAsItWas (old m) (new m)) (sym same) closed.here
    by_name (inr none) (inr other) = inl (closed.rest n none other)

pub others_stay : {O : Type 0} (old new : List ℕ → Place O) (names : List (List ℕ)) (i : ℕ) → IsClosedAgain old new names i → StayOthers old new names
others_stay old new names i closed n none =
    closed.rest n (λ there. none (contains_taken names i n there)) (λ same. none (subst (Contains names) (sym same) (contains_at names i [] closed.inside)))

pub in_order : {O : Type 0} (old new : List ℕ → Place O) (names : List (List ℕ)) (i : ℕ) → AreDifferent names → IsClosedAgain old new names i → AreOpenedInOrder old new names
in_order old new names i different closed j k d less inside stands = by_order (below i k)
  where
    by_order : (i < k) ⊎ (k ≤ i) → new (slice_index_or names k d) ≡ old (slice_index_or names k d)
    by_order (inl after) = closed.rest (slice_index_or names k d) (is_new names i k d different (omega (arith, after)) inside)
        (λ same. different i k [] after inside (sym (get_or_default names k [] d inside ∙ same)))
    by_order (inr least) =
        let came = closed.came j (omega (arith, less, least)) in
        let here : slice_index_or names j d ≡ slice_index_or names j [] = get_or_default names j d [] (omega (arith, less, inside)) in
        let no = sym (came.2) ∙ (subst (λ n. new n ≡ old n) here stands ∙ came.1) in
        cc

-- ---- where each could be opened

-- one more of the names that a list of texts has
pub one_named : {A O : Type 0} (f : A → List ℕ) (texts : List A) (d : A) (i : ℕ) (old now next : List ℕ → Place O) (had has : List O) → AreDifferent (map f texts)
    → i < length texts → length had ≡ i → AreOut old now (take i (map f texts)) had → IsNextOut now next (f (slice_index_or texts i d)) had has
    → AreOut old next (take (i + 1) (map f texts)) has
one_named f texts d i old now next had has different inside as_many out more =
    one_out old now next (map f texts) (f (slice_index_or texts i d)) i had has different (omega (arith, inside, length-map texts f)) as_many (named f texts i i d refl inside) out more

out_in_order : {O : Type 0} (old new : List ℕ → Place O) (names : List (List ℕ)) (sinks : List O) → length sinks ≡ length names → AreOut old new names sinks
    → AreOpenedInOrder old new names
out_in_order old new names [] count out j k d less inside stands = absurd (omega (arith, count, inside))
out_in_order old new names (sink ∷ sinks) count out j k d less inside stands =
    let within : j < length names = omega (arith, less, inside) in
    let here : slice_index_or names j d ≡ slice_index_or names j [] = get_or_default names j d [] within in
    let was : old (slice_index_or names j []) ≡ Here (slice_index_or (sink ∷ sinks) j sink) = out.was j sink within in
    let now : new (slice_index_or names j []) ≡ Out = out.now j [] within in
    let no = sym now ∙ (subst (λ n. new n ≡ old n) here stands ∙ was) in
    cc

pub all_in_order : {O : Type 0} (old new : List ℕ → Place O) (names : List (List ℕ)) (i : ℕ) (sinks : List O) → length names ≡ i → length sinks ≡ i
    → AreOut old new (take i names) sinks → AreOpenedInOrder old new names
all_in_order old new names i sinks past count out =
    out_in_order old new names sinks (count ∙ sym past) (subst (λ ns. AreOut old new ns sinks) (take_all i names (omega (arith, past))) out)
