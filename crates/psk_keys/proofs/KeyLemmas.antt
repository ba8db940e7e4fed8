-- The places of keys, and the nonces in them.
use Rattle.std.proofs.Common.{◌≡◌, ◌⊎◌, ℕ, zero, suc, ◌+◌, ◌-◌, ◌<◌, ◌≤◌, List, [], ◌∷◌, Bool, cond, true, false, Option, Some, None, length, take, slice_get, get_or, Contains, IfSome, IsSome, OnOk, IsOk, Result, Ok, Err, refl, sym, ap, subst, ◌∙◌, inl, inr, arith, nat_eq, add-one}
use Rattle.std.specs.Int.{w32, to_be_bytes}
use Rattle.std.specs.List.{IsDistinct, AllByRecursion}
use Rattle.std.specs.Map.{keys_of, lookup, lookup_entry, remove_entry}
use Rattle.std.specs.Option.{option_map_or}
use Rattle.std.proofs.lemmas.List.{length-take, take_all}
use Rattle.std.proofs.lemmas.Bool.Decides.{nat_tests}
use Rattle.lru.proofs.CallerLemmas.{Contains-lookup_entry, Contains-remove_entry, Contains-take}
use Rattle.lru.specs.LruCache.{LruCache, lru_cache, put_entries, promoted, last_entry}
use Rattle.psk_keys.specs.Keys.{KeysState, after_use, key_of, without}
use Rattle.psk_keys.specs.Inside.Cached.{AreKept, AreFilledFromFront, nonces_of, has_key_of, place_of, empty_places}
use Rattle.psk_keys.specs.declared.cached.Cached.{Cached}

-- ---- numbers of places

mirrored : (p q : ℕ) → nat_eq q p ≡ false → nat_eq p q ≡ false
mirrored p q is = grind (arith, nat_tests)

itself : (p q : ℕ) → q ≡ p → nat_eq p q ≡ true
itself p q is = grind (arith, nat_tests)

-- where the key of a nonce lies further on, it lies in another place
other_place : (q n p : ℕ) (es : List (ℕ × Option Cached)) → AllByRecursion (λ y. nat_eq q y ≡ false) (keys_of es)
    → place_of n es ≡ Some p → nat_eq q p ≡ false
other_place q n p [] all is = cc
other_place q n p (e ∷ es) all is = (elim (has_key_of n e.1) as (λ y. cond y (Some e.0) (place_of n es) ≡ Some p → nat_eq q p ≡ false) [
  | true ↦ λ here. let same : e.0 ≡ p = cc in subst (λ k. nat_eq q k ≡ false) same all.0
  | false ↦ λ on. other_place q n p es all.1 on
]) is

-- ---- a key that is cached

pub record IsHit (n p : ℕ) (es : List (ℕ × Option Cached)) : Type 0 where
  pub key : Cached
  pub found : lookup_entry (nat_eq p) es ≡ Some (p, Some key)
  pub nonce : key.nonce ≡ n
  pub rest : nonces_of (remove_entry (nat_eq p) es) ≡ without n (nonces_of es)
  pub one_less : length (remove_entry (nat_eq p) es) + 1 ≡ length es

empty_before : (n p q : ℕ) (es : List (ℕ × Option Cached)) → nat_eq p q ≡ false → IsHit n p es → IsHit n p ((q, None) ∷ es)
empty_before n p q es apart h = record {
  key = h.key;
  found = rw apart h.found;
  nonce = h.nonce;
  rest = rw apart h.rest;
  one_less = rw apart (omega (arith, h.one_less));
}

other_before : (n p q : ℕ) (c : Cached) (es : List (ℕ × Option Cached)) → nat_eq p q ≡ false → nat_eq n c.nonce ≡ false
    → IsHit n p es → IsHit n p ((q, Some c) ∷ es)
other_before n p q c es apart other h = record {
  key = h.key;
  found = rw apart h.found;
  nonce = h.nonce;
  rest = rw (apart, other) (ap (λ l. c.nonce ∷ l) h.rest);
  one_less = rw apart (omega (arith, h.one_less));
}

here : (n p q : ℕ) (c : Cached) (es : List (ℕ × Option Cached)) → q ≡ p → nat_eq n c.nonce ≡ true → IsHit n p ((q, Some c) ∷ es)
here n p q c es same is = let test = itself p q same in record {
  key = c;
  found = rw test (ap (λ k. Some (k, Some c)) same);
  nonce = grind (arith, nat_tests);
  rest = rw (test, is);
  one_less = rw test (omega arith);
}

pub hit : (n p : ℕ) (es : List (ℕ × Option Cached)) → IsDistinct nat_eq (keys_of es) → place_of n es ≡ Some p → IsHit n p es
unfolding IsDistinct
hit n p [] apart is = cc
hit n p ((q, None) ∷ es) apart is =
    empty_before n p q es (mirrored p q (other_place q n p es apart.0 is)) (hit n p es apart.1 is)
hit n p ((q, Some c) ∷ es) apart is = (elim (nat_eq n c.nonce) as (λ y. nat_eq n c.nonce ≡ y → cond y (Some q) (place_of n es) ≡ Some p → IsHit n p ((q, Some c) ∷ es)) [
  | true ↦ λ t first. here n p q c es (let same : q ≡ p = cc in same) t
  | false ↦ λ t on. other_before n p q c es (mirrored p q (other_place q n p es apart.0 on)) t (hit n p es apart.1 on)
]) refl is

-- ---- the order of the places

-- what is taken from the back goes to the front: one place that isn't filled has none behind it
none_filled : (es : List (ℕ × Option Cached)) → nonces_of es ≡ [] → AreFilledFromFront es
none_filled [] none = tt
none_filled ((q, None) ∷ es) none = none
none_filled ((q, Some c) ∷ es) none = cc

none_left : (test : ℕ → Bool) (es : List (ℕ × Option Cached)) → nonces_of es ≡ [] → nonces_of (remove_entry test es) ≡ []
none_left test [] none = refl
none_left test ((q, None) ∷ es) none = elim (test q) as (λ y. nonces_of (cond y es ((q, None) ∷ remove_entry test es)) ≡ []) [
  | true ↦ none
  | false ↦ none_left test es none
]
none_left test ((q, Some c) ∷ es) none = cc

pub filled_without : (test : ℕ → Bool) (es : List (ℕ × Option Cached)) → AreFilledFromFront es → AreFilledFromFront (remove_entry test es)
filled_without test [] filled = tt
filled_without test ((q, None) ∷ es) filled = elim (test q) as (λ y. AreFilledFromFront (cond y es ((q, None) ∷ remove_entry test es))) [
  | true ↦ none_filled es filled
  | false ↦ none_left test es filled
]
filled_without test ((q, Some c) ∷ es) filled = elim (test q) as (λ y. AreFilledFromFront (cond y es ((q, Some c) ∷ remove_entry test es))) [
  | true ↦ filled
  | false ↦ filled_without test es filled
]

none_in_front : (m : ℕ) (es : List (ℕ × Option Cached)) → nonces_of es ≡ [] → nonces_of (take m es) ≡ []
none_in_front zero es none = refl
none_in_front (suc m) [] none = refl
none_in_front (suc m) ((q, None) ∷ es) none = none_in_front m es none
none_in_front (suc m) ((q, Some c) ∷ es) none = cc

pub filled_in_front : (m : ℕ) (es : List (ℕ × Option Cached)) → AreFilledFromFront es → AreFilledFromFront (take m es)
filled_in_front zero es filled = tt
filled_in_front (suc m) [] filled = tt
filled_in_front (suc m) ((q, None) ∷ es) filled = none_in_front m es filled
filled_in_front (suc m) ((q, Some c) ∷ es) filled = filled_in_front m es filled

pub nonces_in_front : (m : ℕ) (es : List (ℕ × Option Cached)) → AreFilledFromFront es → nonces_of (take m es) ≡ take m (nonces_of es)
nonces_in_front zero es filled = refl
nonces_in_front (suc m) [] filled = refl
nonces_in_front (suc m) ((q, None) ∷ es) filled = none_in_front m es filled ∙ sym (ap (λ l. take (suc m) l) filled)
nonces_in_front (suc m) ((q, Some c) ∷ es) filled = ap (λ l. c.nonce ∷ l) (nonces_in_front m es filled)

pub no_more_nonces : (es : List (ℕ × Option Cached)) → length (nonces_of es) ≤ length es
no_more_nonces [] = omega arith
no_more_nonces ((q, None) ∷ es) = omega (arith, no_more_nonces es)
no_more_nonces ((q, Some c) ∷ es) = omega (arith, no_more_nonces es)

-- ---- a key that isn't cached

pub all_stay : (n : ℕ) (es : List (ℕ × Option Cached)) → place_of n es ≡ None → without n (nonces_of es) ≡ nonces_of es
all_stay n [] is = refl
all_stay n ((q, None) ∷ es) is = all_stay n es is
all_stay n ((q, Some c) ∷ es) is = (elim (nat_eq n c.nonce) as (λ y. cond y (Some q) (place_of n es) ≡ None → cond y (nonces_of es) (c.nonce ∷ without n (nonces_of es)) ≡ c.nonce ∷ nonces_of es) [
  | true ↦ λ first. cc
  | false ↦ λ on. ap (λ l. c.nonce ∷ l) (all_stay n es on)
]) is

-- the number of a place isn't that of one further on
later_place : (q k : ℕ) (e : ℕ × Option Cached) (es : List (ℕ × Option Cached)) → AllByRecursion (λ y. nat_eq q y ≡ false) (keys_of es)
    → slice_get es k ≡ Some e → nat_eq q e.0 ≡ false
later_place q k e [] all is = cc
later_place q zero e (f ∷ es) all is = let same : f ≡ e = cc in subst (λ (x : ℕ × Option Cached). nat_eq q x.0 ≡ false) same all.0
later_place q (suc k) e (f ∷ es) all is = later_place q k e es all.1 is

pub record IsLast (e : ℕ × Option Cached) (k : ℕ) (es : List (ℕ × Option Cached)) : Type 0 where
  pub found : lookup_entry (nat_eq e.0) es ≡ Some e
  pub there : IsSome (lookup (nat_eq e.0) es)
  pub rest : remove_entry (nat_eq e.0) es ≡ take k es

one_before : (e f : ℕ × Option Cached) (k : ℕ) (es : List (ℕ × Option Cached)) → nat_eq e.0 f.0 ≡ false → IsLast e k es → IsLast e (suc k) (f ∷ es)
one_before e f k es apart l = record {
  found = rw apart l.found;
  there = rw apart l.there;
  rest = rw apart (ap (λ (r : List (ℕ × Option Cached)). f ∷ r) l.rest);
}

alone : (e f : ℕ × Option Cached) → f ≡ e → IsLast e 0 (f ∷ [])
alone e f same = let test = itself e.0 f.0 (ap (λ (x : ℕ × Option Cached). x.0) same) in record {
  found = rw test (ap Some same);
  there = rw test refl;
  rest = rw test;
}

pub last_is : (e : ℕ × Option Cached) (k : ℕ) (es : List (ℕ × Option Cached)) → IsDistinct nat_eq (keys_of es)
    → slice_get es k ≡ Some e → length es ≡ suc k → IsLast e k es
unfolding IsDistinct
last_is e k [] apart is long = cc
last_is e zero (f ∷ []) apart is long = alone e f (let same : f ≡ e = cc in same)
last_is e zero (f ∷ g ∷ es) apart is long = absurd (omega arith)
last_is e (suc k) (f ∷ es) apart is long =
    one_before e f k es (mirrored e.0 f.0 (later_place f.0 k e es apart.0 is)) (last_is e k es apart.1 is (omega arith))

not_none : (k : ℕ) (es : List (ℕ × Option Cached)) → k < length es → slice_get es k ≡ None → ⊥
not_none k [] low none = omega arith
not_none zero (e ∷ es) low none = cc
not_none (suc k) (e ∷ es) low none = not_none k es (omega arith) none

pub some_last : (es : List (ℕ × Option Cached)) → 0 < length es → last_entry es ≡ None → ⊥
some_last [] some none = omega arith
some_last (e ∷ es) some none = not_none (length es) (e ∷ es) (omega arith) (subst (λ k. slice_get (e ∷ es) k ≡ None) (let same : length (e ∷ es) - 1 ≡ length es = omega arith in same) none)

-- an answer that is none of memory holds
pub on_ok : {T E : Type 0} (r : Result T E) (P : Type 0) → IsOk r → OnOk r P → P
on_ok (Ok x) P ok is = is
on_ok (Err x) P ok is = cc

pub put_last : (e : ℕ × Option Cached) (k : ℕ) (cache : LruCache ℕ (Option Cached)) (v : Option Cached) → IsLast e k cache.entries
    → put_entries nat_eq cache e.0 v ≡ (e.0, v) ∷ take k cache.entries
put_last e k cache v l = rw (l.found, l.rest)

-- ---- places without keys

pub none_empty : (m : ℕ) (test : ℕ → Bool) → ((q : ℕ) → q < m → test q ≡ false) → lookup_entry test (empty_places m) ≡ None
none_empty zero test fails = refl
none_empty (suc m) test fails = rw (fails m (omega arith)) (none_empty m test (λ q low. fails q (omega arith)))

pub length_empty : (m : ℕ) → length (empty_places m) ≡ m
length_empty zero = refl
length_empty (suc m) = omega (arith, length_empty m)

-- one more
pub one_more : (m : ℕ) → m < 4 → put_entries nat_eq (lru_cache (empty_places m) 4) m None ≡ empty_places (m + 1)
one_more m low =
    let none = none_empty m (nat_eq m) (λ q below. grind (arith, nat_tests)) in
    rw (none, add-one) (ap (λ (l : List (ℕ × Option Cached)). (m, None) ∷ l) (take_all 3 (empty_places m) (omega (arith, length_empty m))))

-- ---- what holds of a session's places

Contains-cons : (p : ℕ × Option Cached) (es : List (ℕ × Option Cached)) (e : ℕ × Option Cached) → Contains (p ∷ es) e → (p ≡ e) ⊎ Contains es e
Contains-cons p es e (zero, low, is) = inl is
Contains-cons p es e (suc k, low, is) = inr (k, omega arith, is)

-- a filled place that goes to the front
front_kept : (pass : List ℕ) (bits p : ℕ) (c : Cached) (old rest : List (ℕ × Option Cached)) → AreKept pass bits old
    → ((e : ℕ × Option Cached) → Contains rest e → Contains old e) → AreFilledFromFront rest → length rest + 1 ≡ length old
    → c.cipher ≡ key_of pass bits (to_be_bytes w32 c.nonce) → AreKept pass bits ((p, Some c) ∷ rest)
front_kept pass bits p c old rest kept from filled long is = record {
  derived = record {
    each = λ e there. elim (Contains-cons (p, Some c) rest e there) [
      | inl same ↦ subst (λ (x : ℕ × Option Cached). IfSome x.1 (λ k. k.cipher ≡ key_of pass bits (to_be_bytes w32 k.nonce))) same is
      | inr on ↦ kept.derived.each e (from e on)
    ];
  };
  filled = filled;
  four = omega (arith, long, kept.four);
}

pub record Turns (pass : List ℕ) (bits n : ℕ) (old new : List (ℕ × Option Cached)) : Type 0 where
  pub kept : AreKept pass bits new
  pub order : nonces_of new ≡ n ∷ take 3 (without n (nonces_of old))

pub turn_on_hit : (pass : List ℕ) (bits n p : ℕ) (old : List (ℕ × Option Cached)) → AreKept pass bits old
    → IsDistinct nat_eq (keys_of old) → place_of n old ≡ Some p → Turns pass bits n old (promoted (nat_eq p) old)
turn_on_hit pass bits n p old kept apart is =
    let h = hit n p old apart is in
    let there = (Contains-lookup_entry (nat_eq p) old (p, Some h.key) h.found).0 in
    let few : length (without n (nonces_of old)) ≤ 3 =
    subst (λ (l : List ℕ). length l ≤ 3) h.rest (omega (arith, no_more_nonces (remove_entry (nat_eq p) old), h.one_less, kept.four)) in
    rw h.found (record {
      kept = front_kept pass bits p h.key old (remove_entry (nat_eq p) old) kept (Contains-remove_entry (nat_eq p) old)
          (filled_without (nat_eq p) old kept.filled) h.one_less (kept.derived.each (p, Some h.key) there);
      order = ap (λ l. h.key.nonce ∷ l) h.rest ∙ ap (λ k. k ∷ without n (nonces_of old)) h.nonce ∙ ap (λ l. n ∷ l) (sym (take_all 3 (without n (nonces_of old)) few));
    })

pub turn_on_miss : (pass : List ℕ) (bits p : ℕ) (c : Cached) (old : List (ℕ × Option Cached)) → AreKept pass bits old
    → place_of c.nonce old ≡ None → c.cipher ≡ key_of pass bits (to_be_bytes w32 c.nonce)
    → Turns pass bits c.nonce old ((p, Some c) ∷ take 3 old)
turn_on_miss pass bits p c old kept none is = record {
  kept = front_kept pass bits p c old (take 3 old) kept (Contains-take 3 old) (filled_in_front 3 old kept.filled)
      (omega (arith, length-take 3 old, kept.four)) is;
  order = ap (λ l. c.nonce ∷ l) (nonces_in_front 3 old kept.filled ∙ ap (λ (l : List ℕ). take 3 l) (sym (all_stay c.nonce old none)));
}

pub turned : (pass : List ℕ) (bits n : ℕ) (old new : List (ℕ × Option Cached)) → Turns pass bits n old new
    → record { phrase = pass; bits = bits; cached = nonces_of new } ≡ after_use n (record { phrase = pass; bits = bits; cached = nonces_of old })
turned pass bits n old new t = ap (λ (l : List ℕ). let k : KeysState = record { phrase = pass; bits = bits; cached = l } in k) t.order

-- the latest key is that of the latest nonce
pub latest_is : (pass : List ℕ) (bits p : ℕ) (c : Cached) (es : List (ℕ × Option Cached)) → AreKept pass bits es → slice_get es 0 ≡ Some (p, Some c)
    → c.cipher ≡ key_of pass bits (to_be_bytes w32 (get_or (nonces_of es) 0 0))
latest_is pass bits p c [] kept is = cc
latest_is pass bits p c (e ∷ es) kept is =
    let same : e ≡ (p, Some c) = cc in
    kept.derived.each (p, Some c) (subst (λ (x : ℕ × Option Cached). Contains (x ∷ es) (p, Some c)) (sym same) (0, omega arith, refl))
    ∙ ap (λ (x : ℕ × Option Cached). key_of pass bits (to_be_bytes w32 (get_or (nonces_of (x ∷ es)) 0 0))) (sym same)

apart : (c : Cached) → Some c ≡ None → ⊥
apart c is = cc

-- where some key is cached, the latest place has one
pub some_latest : (p : ℕ) (es : List (ℕ × Option Cached)) → AreFilledFromFront es → slice_get es 0 ≡ Some (p, None) → 0 < length (nonces_of es) → ⊥
some_latest p [] filled is some = cc
some_latest p ((q, None) ∷ es) filled is some = omega (arith, ap (λ (l : List ℕ). length l) filled)
some_latest p ((q, Some c) ∷ es) filled is some = apart c (ap (λ (o : Option (ℕ × Option Cached)). option_map_or (λ (x : ℕ × Option Cached). x.1) o None) is)

pub some_place : (es : List (ℕ × Option Cached)) → slice_get es 0 ≡ None → 0 < length (nonces_of es) → ⊥
some_place [] is some = omega arith
some_place (e ∷ es) is some = cc
