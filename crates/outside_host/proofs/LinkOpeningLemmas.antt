-- Links opened one after another.
use Rattle.std.proofs.Common.{map, take, drop, append-nil, zero, suc, ◌≡◌, ◌⊎◌, ◌≤◌, ◌<◌, ◌+◌, ◌++◌, ◌∷◌, ℕ, List, [], length, refl, sym, ap, ◌∙◌, subst, arith, slice_index_or, length-append, append_assoc}
use mathlib.Core.Logic.{inl, inr}
use Rattle.std.proofs.lemmas.List.{get_or_at, get_or_append_left, length-map, map-append, take-append-drop, take_more}
use Rattle.outside_host.specs.declared.host.Place.{Place}
use Rattle.outside_host.specs.declared.host.Place.TheVariants.{Here, Out}
use Rattle.outside_host.specs.Links.{AreOut, AreBack, AreAsTheyWere, AreFirstOf, IsAsItWas}
use Rattle.std.specs.Prelude.{Result, Ok, Err, OnErr}
use Rattle.std.specs.Prelude.{Bool}
use Rattle.link_channels.specs.declared.channel.Channel.{Channel}
use Rattle.link_channels.specs.declared.profile.Profile.{Profile}
use Rattle.outside_net.specs.declared.link_spec.Role.{Role}
use Rattle.outside_host.specs.Shelf.{KnowsStated}
use Rattle.outside_host.specs.Inside.Links.{ComeBack, GainKnowing, IsNextOut, StayFirst}
use Rattle.outside_host.proofs.LinkGivingLemmas.{same_place}

pub none_out : {L : Type 0} (old : ℕ → Place L) → AreOut old old []
none_out old = record {
  was = λ place d less. absurd (omega (arith, less));
  now = λ place less. absurd (omega (arith, less));
  others = λ place least. refl;
}

pub one_out : {L : Type 0} (old now next : ℕ → Place L) (had has : List L) → AreOut old now had → IsNextOut now next had has → AreOut old next has
one_out {L} old now next had has out more =
    let count : length has ≡ length had + 1 = ap length more.more ∙ length-append had (more.link ∷ []) in
    record {
      was = λ place d less. subst (λ ls. old place ≡ Here (slice_index_or ls place d)) (sym more.more) (was place d (same_place place (length had)) (omega (arith, less, count)));
      now = λ place less. is_out place (same_place place (length had)) (omega (arith, less, count));
      others = λ place least. more.hands.others place (λ e. omega (arith, least, e, count)) ∙ out.others place (omega (arith, least, count));
    }
  where
    was : (place : ℕ) (d : L) → (place ≡ length had) ⊎ (place ≡ length had → ⊥) → place < length had + 1 → old place ≡ Here (slice_index_or (had ++ more.link ∷ []) place d)
    was place d (inl same) less =
        subst (λ p. old p ≡ Here (slice_index_or (had ++ more.link ∷ []) p d)) (sym same)
        (sym (out.others (length had) (omega arith)) ∙ (more.hands.was ∙ ap Here (sym (get_or_at had more.link [] d (length had) refl))))
    was place d (inr other) less =
        let below : place < length had = omega (arith, less, other) in
        out.was place d below ∙ ap Here (sym (get_or_append_left had (more.link ∷ []) d place below))

    is_out : (place : ℕ) → (place ≡ length had) ⊎ (place ≡ length had → ⊥) → place < length had + 1 → next place ≡ Out
    is_out place (inl same) less = subst (λ p. next p ≡ Out) (sym same) more.hands.now
    is_out place (inr other) less = more.hands.others place other ∙ out.now place (omega (arith, less, other))

came_back : {L : Type 0} (old now after new : ℕ → Place L) (links : List L) (place : ℕ) → place < length links → AreOut old now links → StayFirst (length links) now after
    → AreBack after new links → IsAsItWas (old place) (new place)
came_back old now after new [] place less out stay back = absurd (omega (arith, less))
came_back old now after new (link ∷ links) place less out stay back =
    inr (slice_index_or (link ∷ links) place link, out.was place link less, back.now place link less (stay place less ∙ out.now place less))

-- one number lies below another, or not
pub below : (a b : ℕ) → (a < b) ⊎ (b ≤ a)
below zero zero = inr (omega arith)
below zero (suc b) = inl (omega arith)
below (suc a) zero = inr (omega arith)
below (suc a) (suc b) = above (below a b)
  where
    above : (a < b) ⊎ (b ≤ a) → (suc a < suc b) ⊎ (suc b ≤ suc a)
    above (inl less) = inl (omega (arith, less))
    above (inr least) = inr (omega (arith, least))

-- some were opened, another could not be, and those came back
pub all_as_they_were : {L : Type 0} (old now after new : ℕ → Place L) (links : List L) → AreOut old now links → AreAsTheyWere now after → StayFirst (length links) now after
    → AreBack after new links → AreAsTheyWere old new
all_as_they_were old now after new links out same stay back place = by_place (below place (length links))
  where
    by_place : (place < length links) ⊎ (length links ≤ place) → IsAsItWas (old place) (new place)
    by_place (inl less) = came_back old now after new links place less out stay back
    by_place (inr least) =
        subst (λ x. IsAsItWas x (new place)) (out.others place least) (subst (λ x. IsAsItWas (now place) x) (sym (back.others place least)) (same place))

-- one more of a list's front
pub one_more : {A B : Type 0} (f : A → B) (xs : List A) (i : ℕ) (d : A) (ys : List B) → ys ≡ map f (take i xs) → i < length xs → ys ++ f (slice_index_or xs i d) ∷ [] ≡ map f (take (i + 1) xs)
one_more f xs i d ys is less =
    ap (λ l. l ++ f (slice_index_or xs i d) ∷ []) is ∙ (sym (map-append f (take i xs) (slice_index_or xs i d ∷ [])) ∙ ap (map f) (sym (take_more xs i d less)))

-- and behind some that were there
pub one_more_behind : {A B : Type 0} (f : A → B) (first : List B) (xs : List A) (i : ℕ) (d : A) (ys : List B) → ys ≡ first ++ map f (take i xs) → i < length xs
    → ys ++ f (slice_index_or xs i d) ∷ [] ≡ first ++ map f (take (i + 1) xs)
one_more_behind f first xs i d ys is less =
    ap (λ l. l ++ f (slice_index_or xs i d) ∷ []) is
    ∙ (append_assoc first (map f (take i xs)) (f (slice_index_or xs i d) ∷ []) ∙ ap (λ l. first ++ l) (one_more f xs i d (map f (take i xs)) refl less))

-- what stands first with one more of a list stands first with all of it
pub first_with_all : {A B : Type 0} (f : A → B) (first : List B) (xs : List A) (i : ℕ) (d : A) (ys opened : List B) → ys ≡ first ++ map f (take i xs) → i < length xs
    → AreFirstOf opened (ys ++ f (slice_index_or xs i d) ∷ []) → AreFirstOf opened (first ++ map f xs)
first_with_all f first xs i d ys opened is less front = (front.0 ++ map f (drop (i + 1) xs), whole)
  where
    whole : first ++ map f xs ≡ opened ++ (front.0 ++ map f (drop (i + 1) xs))
    whole =
        ap (λ l. first ++ map f l) (sym (take-append-drop (i + 1) xs))
        ∙ (ap (λ l. first ++ l) (map-append f (take (i + 1) xs) (drop (i + 1) xs))
        ∙ (sym (append_assoc first (map f (take (i + 1) xs)) (map f (drop (i + 1) xs)))
        ∙ (ap (λ l. l ++ map f (drop (i + 1) xs)) (sym (one_more_behind f first xs i d ys is less) ∙ front.1)
        ∙ append_assoc opened front.0 (map f (drop (i + 1) xs)))))

-- all of a list stand first, and so do they with more behind it
pub all_first : {A : Type 0} (xs ys : List A) → xs ≡ ys → AreFirstOf xs ys
all_first xs ys same = ([], sym same ∙ sym (append-nil xs))

-- none stand first
pub none_first : {A : Type 0} (xs ys : List A) → xs ≡ [] → AreFirstOf xs ys
none_first xs ys none = (ys, ap (λ l. l ++ ys) (sym none))

pub first_with_more : {A : Type 0} (opened xs ys : List A) → AreFirstOf opened xs → AreFirstOf opened (xs ++ ys)
first_with_more opened xs ys front = (front.0 ++ ys, ap (λ l. l ++ ys) front.1 ∙ append_assoc opened front.0 ys)

-- the same are open after as before
pub first_still : {A : Type 0} (opened before xs : List A) → opened ≡ before → AreFirstOf before xs → AreFirstOf opened xs
first_still opened before xs same front = subst (λ o. AreFirstOf o xs) (sym same) front

-- of a host that had opened none
pub first_of_new : {A : Type 0} (opened had xs ys : List A) → had ≡ [] → AreFirstOf opened (had ++ xs) → AreFirstOf opened (xs ++ ys)
first_of_new opened had xs ys none front = first_with_more opened xs ys (subst (λ h. AreFirstOf opened (h ++ xs)) none front)

-- from a host that has handed out none, what could not be opened came back
pub from_none : {L T E : Type 0} (old new : ℕ → Place L) (had : List L) (result : Result T E) → had ≡ [] → OnErr result (ComeBack old new had) → OnErr result (AreAsTheyWere old new)
from_none old new had (Ok x) none back = tt
from_none old new had (Err e) none back = back old (subst (AreOut old old) (sym none) (none_out old))

-- likewise from one that has handed out some
pub from_some : {L T E : Type 0} (base old new : ℕ → Place L) (had : List L) (result : Result T E) → AreOut base old had → OnErr result (ComeBack old new had) → OnErr result (AreAsTheyWere base new)
from_some base old new had (Ok x) out back = tt
from_some base old new had (Err e) out back = back base out

-- as many were handed out as are there
pub as_many_out : {A B : Type 0} (f : A → B) (first now : List B) (xs : List A) (n links : ℕ) → now ≡ first ++ map f xs → length first ≡ n → links ≡ n + length xs → length now ≡ links
as_many_out f first now xs n links is before count =
    omega (arith, ap length is, length-append first (map f xs), length-map xs f, before, count)

-- ---- links that know the peers that their addresses state

pub know_none : {L : Type 0} (knows : L → Channel → Bool) (role : Role) (profile : Profile) (had : List L) → GainKnowing knows role profile had had
know_none knows role profile had = record {
  first = λ i d less. refl;
  gained = λ i d least less. absurd (omega (arith, least, less));
}

pub know_one : {L : Type 0} (knows : L → Channel → Bool) (role : Role) (profile : Profile) (had has : List L) (link : L) → has ≡ had ++ link ∷ [] → KnowsStated (knows link) role profile
    → GainKnowing knows role profile had has
know_one {L} knows role profile had has link is known =
    subst (λ (ls : List L). GainKnowing knows role profile had ls) (sym is) (record {
      first = λ i d less. get_or_append_left had (link ∷ []) d i less;
      gained = λ i d least less.
          subst (λ (x : L). KnowsStated (knows x) role profile) (sym (get_or_at had link [] d i (omega (arith, least, less, length-append had (link ∷ []))))) known;
    })

pub know_both : {L : Type 0} (knows : L → Channel → Bool) (role : Role) (profile : Profile) (a b c : List L) → length a ≤ length b → GainKnowing knows role profile a b → GainKnowing knows role profile b c
    → GainKnowing knows role profile a c
know_both {L} knows role profile a b c more one two = record {
  first = λ i d less. two.first i d (omega (arith, less, more)) ∙ one.first i d less;
  gained = λ i d least less. by_place i d least less (below i (length b));
}
  where
    by_place : (i : ℕ) (d : L) → length a ≤ i → i < length c → (i < length b) ⊎ (length b ≤ i) → KnowsStated (knows (slice_index_or c i d)) role profile
    by_place i d least less (inl there) = subst (λ (x : L). KnowsStated (knows x) role profile) (sym (two.first i d there)) (one.gained i d least there)
    by_place i d least less (inr behind) = two.gained i d behind less
