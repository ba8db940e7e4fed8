-- The nonce of a word, and the nonces of sixteen.
use Rattle.std.proofs.Common.{◌≡◌, ◌≢◌, ℕ, zero, suc, ◌+◌, ◌%◌, ◌^◌, ◌<◌, ◌≤◌, ◌==◌, List, [], ◌∷◌, ◌++◌, length, take, get_or, if◌then◌else◌, refl, sym, ap, ◌∙◌, subst, arith, length-append}
use Rattle.std.specs.Prelude.{Contains, Option, slice_set}
use Rattle.std.proofs.lemmas.List.{get_or-set_same, get_or-set_other, take-set-le, get_or-take, take_more_same, length-take-le, take_all, length-set}
use Rattle.std.proofs.Math.ListN.{get_or-append}
use Rattle.std.proofs.Math.Seq.{get_or-append_seam}
use Rattle.std.proofs.lemmas.Grind.{get_or_default_zero}
use Rattle.std.proofs.lemmas.Bool.Decides.{nat_tests}
use native.Mathlib.Decide.{dec_lt}
use Rattle.psk_seal.proofs.Pigeonhole.{pigeonhole}
use Rattle.outside_io.specs.Told.{Takes}
use Rattle.outside_io.proofs.ToldLemmas.{takes_both}
use Rattle.psk_seal.specs.Nonces.{IsFree, IsFirstFree, GiveNonces, Draws, AreNonces, steps_between}

-- the first place of a number in a list, or the list's length
abbrev place_in : ℕ → List ℕ → ℕ
place_in x [] = 0
place_in x (y ∷ ys) = if x == y then 0 else suc (place_in x ys)

place_found : (x : ℕ) (ys : List ℕ) → place_in x ys < length ys → get_or ys (place_in x ys) 0 ≡ x
place_found x [] low = absurd (omega arith)
place_found x (y ∷ ys) low = grind (arith, nat_tests, place_found x ys)

place_of : (x : ℕ) (ys : List ℕ) → (length ys ≤ place_in x ys → ⊥) → Contains ys x
place_of x ys low = (place_in x ys, omega (arith, low), get_or_default_zero ys (place_in x ys) x (omega (arith, low)) ∙ place_found x ys (omega (arith, low)))

place_missing : (x : ℕ) (ys : List ℕ) (k : ℕ) → length ys ≤ place_in x ys → k < length ys → get_or ys k 0 ≢ x
place_missing x [] k long low = absurd (omega arith)
place_missing x (y ∷ ys) zero long low = grind (arith, nat_tests)
place_missing x (y ∷ ys) (suc k) long low = grind (arith, nat_tests, place_missing x ys k)

-- a blocked number is 0 or among the earlier ones
blocked_place : (earlier : List ℕ) (x : ℕ) → (IsFree earlier x → ⊥) → place_in x (0 ∷ earlier) < length (0 ∷ earlier)
blocked_place earlier x blocked =
    elim (dec_lt (place_in x (0 ∷ earlier)) (length (0 ∷ earlier))) [
      | yes low ↦ low
      | no high ↦ absurd (blocked (record {
        some = λ none. place_missing x (0 ∷ earlier) 0 (omega (arith, high)) (omega arith) (sym none);
        new = λ has. place_missing x (0 ∷ earlier) (suc has.0) (omega (arith, high)) (omega (arith, has.1)) (sym (get_or_default_zero earlier has.0 x has.1) ∙ has.2);
      }))
    ]

same_step : (word i j n : ℕ) → n ≤ 2 ^ 32 → i < n → j < n → (word + i) % 2 ^ 32 ≡ (word + j) % 2 ^ 32 → i ≡ j
same_step word i j n small a b same = omega arith

-- fewer than seventeen numbers in a row are blocked by fifteen
pub blocked_few : (earlier : List ℕ) (word n : ℕ) → n ≤ 2 ^ 32 → ((k : ℕ) → k < n → IsFree earlier ((word + k) % 2 ^ 32) → ⊥) → n ≤ length earlier + 1
blocked_few earlier word n small blocked =
    let few : n ≤ length (0 ∷ earlier) =
    pigeonhole n (length (0 ∷ earlier)) (λ k. place_in ((word + k) % 2 ^ 32) (0 ∷ earlier))
    (λ k low. blocked_place earlier ((word + k) % 2 ^ 32) (blocked k low))
    (λ i j a b same.
    same_step word i j n small a b
    (sym (place_found ((word + i) % 2 ^ 32) (0 ∷ earlier) (blocked_place earlier ((word + i) % 2 ^ 32) (blocked i a)))
    ∙ ap (λ p. get_or (0 ∷ earlier) p 0) same
    ∙ place_found ((word + j) % 2 ^ 32) (0 ∷ earlier) (blocked_place earlier ((word + j) % 2 ^ 32) (blocked j b)))) in
    omega (arith, few)

steps_lead : (word number k : ℕ) → word < 2 ^ 32 → number < 2 ^ 32 → k ≡ steps_between word number → (word + k) % 2 ^ 32 ≡ number
steps_lead word number k a b is = omega arith

-- one more number is blocked
pub blocked_more : (earlier : List ℕ) (word number : ℕ) → word < 2 ^ 32 → number < 2 ^ 32
    → ((k : ℕ) → k < steps_between word number → IsFree earlier ((word + k) % 2 ^ 32) → ⊥) → (IsFree earlier number → ⊥)
    → (k : ℕ) → k < steps_between word number + 1 → IsFree earlier ((word + k) % 2 ^ 32) → ⊥
blocked_more earlier word number a b before here k low free =
    elim (dec_lt k (steps_between word number)) [
      | yes sooner ↦ before k sooner free
      | no later ↦ here (subst (IsFree earlier) (steps_lead word number k a b (omega (arith, low, later))) free)
    ]

pub next_steps : (word number : ℕ) → word < 2 ^ 32 → number < 2 ^ 32 → steps_between word number + 1 < 2 ^ 32
    → steps_between word ((number + 1) % 2 ^ 32) ≡ steps_between word number + 1
next_steps word number a b few = omega arith

-- the nonce of a word is one
one_first : (earlier : List ℕ) (word a b : ℕ) → IsFirstFree earlier word a → IsFirstFree earlier word b → steps_between word a < steps_between word b → ⊥
one_first earlier word a b f g sooner = g.first (steps_between word a) sooner (subst (IsFree earlier) (sym (steps_lead word a (steps_between word a) f.drawn f.within refl)) f.free)

same_steps : (word a b : ℕ) → word < 2 ^ 32 → a < 2 ^ 32 → b < 2 ^ 32 → steps_between word a ≡ steps_between word b → a ≡ b
same_steps word a b w x y same = omega arith

one_nonce : (earlier : List ℕ) (word a b : ℕ) → IsFirstFree earlier word a → IsFirstFree earlier word b → a ≡ b
one_nonce earlier word a b f g =
    elim (dec_lt (steps_between word a) (steps_between word b)) [
      | yes sooner ↦ absurd (one_first earlier word a b f g sooner)
      | no other ↦ elim (dec_lt (steps_between word b) (steps_between word a)) [
        | yes later ↦ absurd (one_first earlier word b a g f later)
        | no neither ↦ same_steps word a b f.drawn f.within g.within (omega (arith, other, neither))
      ]
    ]

same_fronts : (words xs ys : List ℕ) (i : ℕ) → i ≤ 16 → GiveNonces words xs 16 → GiveNonces words ys 16 → take i xs ≡ take i ys
same_fronts words xs ys zero low f g = refl
same_fronts words xs ys (suc i) low f g =
    let before = same_fronts words xs ys i (omega arith) f g in
    let here = one_nonce (take i xs) (get_or words i 0) (get_or xs i 0) (get_or ys i 0) (f.each i (omega arith))
    (subst (λ e. IsFirstFree e (get_or words i 0) (get_or ys i 0)) (sym before) (g.each i (omega arith))) in
    let next : i + 1 ≡ suc i = omega arith in
    subst (λ n. take n xs ≡ take n ys) next (take_more_same xs ys i 0 (omega (arith, f.size)) (omega (arith, g.size)) before here)

-- sixteen words give one list
pub one_list : (words xs ys : List ℕ) → GiveNonces words xs 16 → GiveNonces words ys 16 → xs ≡ ys
one_list words xs ys f g =
    sym (take_all 16 xs (omega (arith, f.size))) ∙ same_fronts words xs ys 16 (omega arith) f g ∙ take_all 16 ys (omega (arith, g.size))

-- what sixteen words give are nonces
are_nonces : (words xs : List ℕ) → GiveNonces words xs 16 → AreNonces xs
are_nonces words xs f = record {
  size = f.size;
  each = λ i low. let here = f.each i low in (omega (arith, here.free.some), here.within);
  apart = λ i j sooner low same.
      let size : length (take j xs) ≡ j = length-take-le j xs (omega (arith, f.size)) in
      (f.each j low).free.new (
        i,
        omega (arith, size),
        get_or_default_zero (take j xs) i (get_or xs j 0) (omega (arith, size)) ∙ get_or-take j xs i 0 sooner ∙ same,
      );
}

pub are_drawn : (old new : Option (List ℕ)) (xs : List ℕ) (n : ℕ) → n ≡ 16 → Draws old new xs n → AreNonces xs
are_drawn old new xs n all d = are_nonces d.words xs (subst (GiveNonces d.words xs) all d.given)

-- one more word was drawn, and gave a nonce
pub draws_more : (old mid new : Option (List ℕ)) (nonces : List ℕ) (count word nonce : ℕ) → count < 16
    → Draws old mid nonces count → Takes mid new (word ∷ []) → IsFirstFree (take count nonces) word nonce
    → Draws old new (slice_set nonces count nonce) (count + 1)
draws_more old mid new nonces count word nonce low d took free = record {
  words = d.words ++ word ∷ [];
  taken = takes_both old mid new d.words (word ∷ []) d.taken took;
  given = record {
    drawn = omega (arith, length-append d.words (word ∷ []), d.given.drawn);
    size = length-set nonces count nonce ∙ d.given.size;
    each = λ i below. elim (dec_lt i count) [
      | yes sooner ↦ subst (λ w. IsFirstFree (take i (slice_set nonces count nonce)) w (get_or (slice_set nonces count nonce) i 0))
          (sym (get_or-append d.words (word ∷ []) 0 i (omega (arith, d.given.drawn))))
          (subst (λ e. IsFirstFree e (get_or d.words i 0) (get_or (slice_set nonces count nonce) i 0))
          (sym (take-set-le i nonces count nonce (omega arith)))
          (subst (λ n. IsFirstFree (take i nonces) (get_or d.words i 0) n)
          (sym (get_or-set_other nonces count i nonce 0 (λ same. omega (arith, same, sooner))))
          (d.given.each i sooner)))
      | no later ↦ last nonces d.words count i word nonce (omega (arith, below, later)) d.given.drawn (omega (arith, d.given.size)) free
    ];
  };
}
  where
    last : (xs words : List ℕ) (n i word nonce : ℕ) → i ≡ n → length words ≡ n → n < length xs → IsFirstFree (take n xs) word nonce
        → IsFirstFree (take i (slice_set xs n nonce)) (get_or (words ++ word ∷ []) i 0) (get_or (slice_set xs n nonce) i 0)
    last xs words n i word nonce is size inside free =
        let w : get_or (words ++ word ∷ []) i 0 ≡ word = ap (λ k. get_or (words ++ word ∷ []) k 0) (is ∙ sym size) ∙ get_or-append_seam words word [] 0 in
        let x : get_or (slice_set xs n nonce) i 0 ≡ nonce = ap (λ k. get_or (slice_set xs n nonce) k 0) is ∙ get_or-set_same xs n nonce 0 inside in
        let f : take i (slice_set xs n nonce) ≡ take n xs = ap (λ k. take k (slice_set xs n nonce)) is ∙ take-set-le n xs n nonce (omega arith) in
        rw w (rw x (rw f free))
