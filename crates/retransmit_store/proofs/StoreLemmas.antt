-- Stored packets, whose numbers fall one by one, and the places at which they stand.
use Rattle.std.proofs.Common.{rules, ◌≡◌, ◌∙◌, ℕ, zero, suc, ◌+◌, ◌-◌, ◌%◌, ◌<◌, ◌≤◌, true, false, List, [], ◌∷◌, map, set, take, Option, Some, None, option_map, refl, sym, ap, subst, arith}
use Rattle.std.specs.Prelude.{◌==◌, slice_get, if◌then◌else◌, IsSome}
use Rattle.std.specs.List.{find}
use Rattle.std.proofs.lemmas.Bool.{eq-eqb, ne_eqb, eqb-true}
use Rattle.std.proofs.Math.Nat.{div-add-mod}
use Rattle.seq_unwrap.specs.declared.width.Width.{Width}
use Rattle.seq_unwrap.specs.declared.width.Width.TheVariants.{W16, W32}
use Rattle.seq_unwrap.specs.Nearest.{cycle_of}
use Rattle.sender_rules.specs.Sendings.{Packet, AreFalling}
use Rattle.sender_rules.specs.Stored.{packet_for, packet_with}
use Rattle.sender_rules.proofs.StoredLemmas.{find_at, find_nowhere, number_behind}
use Rattle.retransmit_store.specs.declared.store.Stored.{Stored}
use Rattle.retransmit_store.specs.State.{IsNext, packets_of, stored_with, marked_with, with_mark}

-- the numbers of stored packets
abbrev pub numbers_of : List Stored → List ℕ
numbers_of ps = map (λ p. p.sent.number) ps

-- ---- by number

-- a number at or below the newest stands as far behind it as it is less
pub place_by_number : (newest : Stored) (ps : List Stored) (number : ℕ) → AreFalling (numbers_of (newest ∷ ps)) → number ≤ newest.sent.number
    → stored_with (newest ∷ ps) number ≡ slice_get (newest ∷ ps) (newest.sent.number - number)
place_by_number newest ps number falls le =
    find_at (λ p. p.sent.number == number) (newest ∷ ps) (newest.sent.number - number)
    (λ j p lt there. ne_eqb p.sent.number number (λ e. omega (arith, e, le, lt, number_behind (λ q. q.sent.number) newest ps j p falls there)))
    (λ p there. eq-eqb p.sent.number number (omega (arith, le, number_behind (λ q. q.sent.number) newest ps (newest.sent.number - number) p falls there)))

-- a number above the newest isn't stored
pub none_above : (newest : Stored) (ps : List Stored) (number : ℕ) → AreFalling (numbers_of (newest ∷ ps)) → newest.sent.number < number
    → stored_with (newest ∷ ps) number ≡ None
none_above newest ps number falls lt =
    find_nowhere (λ p. p.sent.number == number) (newest ∷ ps)
    (λ j p there. ne_eqb p.sent.number number (λ e. omega (arith, e, lt, number_behind (λ q. q.sent.number) newest ps j p falls there)))

-- the packet with a number, with and without its mark
pub with_number : (ps : List Stored) (number : ℕ) → packet_with (packets_of ps) number ≡ option_map (λ p. p.sent) (stored_with ps number)
with_number [] number = refl
with_number (p ∷ ps) number =
    elim (p.sent.number == number) as (λ c. (if c then Some p.sent else packet_with (packets_of ps) number) ≡ option_map (λ q. q.sent) (if c then Some p else stored_with ps number)) [
      | true ↦ refl
      | false ↦ with_number ps number
    ]

-- ---- by word

-- so many places behind a number stands one that ends in the word
behind_ends : (width : Width) (newest number word behind : ℕ) → word < cycle_of width → behind ≡ (newest % cycle_of width + cycle_of width - word) % cycle_of width
    → number + behind ≡ newest → number % cycle_of width ≡ word
behind_ends W16 newest number word behind lt e at = omega (arith, lt, e, at, div-add-mod newest 65536, div-add-mod number 65536, div-add-mod (newest % 65536 + 65536 - word) 65536)
behind_ends W32 newest number word behind lt e at = omega (arith, lt, e, at, div-add-mod newest 4294967296, div-add-mod number 4294967296, div-add-mod (newest % 4294967296 + 4294967296 - word) 4294967296)

-- and fewer places behind it none does
nearer_differs : (width : Width) (newest number word behind j : ℕ) → word < cycle_of width → behind ≡ (newest % cycle_of width + cycle_of width - word) % cycle_of width
    → number + j ≡ newest → j < behind → number % cycle_of width ≡ word → ⊥
nearer_differs W16 newest number word behind j lt e at less same = omega (arith, lt, e, at, less, same, div-add-mod newest 65536, div-add-mod number 65536, div-add-mod (newest % 65536 + 65536 - word) 65536)
nearer_differs W32 newest number word behind j lt e at less same = omega (arith, lt, e, at, less, same, div-add-mod newest 4294967296, div-add-mod number 4294967296, div-add-mod (newest % 4294967296 + 4294967296 - word) 4294967296)

pub place_by_word : (newest : Stored) (ps : List Stored) (width : Width) (word behind : ℕ) → AreFalling (numbers_of (newest ∷ ps)) → word < cycle_of width
    → behind ≡ (newest.sent.number % cycle_of width + cycle_of width - word) % cycle_of width
    → find (λ p. p.sent.number % cycle_of width == word) (newest ∷ ps) ≡ slice_get (newest ∷ ps) behind
place_by_word newest ps width word behind falls lt e =
    find_at (λ p. p.sent.number % cycle_of width == word) (newest ∷ ps) behind
    (λ j p less there. ne_eqb (p.sent.number % cycle_of width) word
    (nearer_differs width newest.sent.number p.sent.number word behind j lt e (number_behind (λ q. q.sent.number) newest ps j p falls there) less))
    (λ p there. eq-eqb (p.sent.number % cycle_of width) word
    (behind_ends width newest.sent.number p.sent.number word behind lt e (number_behind (λ q. q.sent.number) newest ps behind p falls there)))

-- the packet for a word, with and without its mark
pub for_word : (ps : List Stored) (width : Width) (word : ℕ) → packet_for (packets_of ps) width word ≡ option_map (λ p. p.sent) (find (λ p. p.sent.number % cycle_of width == word) ps)
for_word [] width word = refl
for_word (p ∷ ps) width word =
    elim (p.sent.number % cycle_of width == word) as (λ c. (if c then Some p.sent else packet_for (packets_of ps) width word) ≡ option_map (λ q. q.sent) (if c then Some p else find (λ q. q.sent.number % cycle_of width == word) ps)) [
      | true ↦ refl
      | false ↦ for_word ps width word
    ]

-- ---- of a store whose newest packet is known

first_is : (p q : Stored) (ps : List Stored) → Some q ≡ slice_get (p ∷ ps) 0 → q ≡ p
first_is p q ps e = cc

pub nothing_stored : (ps : List Stored) → None ≡ slice_get ps 0 → ps ≡ []
nothing_stored [] e = refl
nothing_stored (p ∷ ps) e = absurd cc

number_of : (o : Option Stored) → option_map (λ p. p.number) (option_map (λ p. p.sent) o) ≡ option_map (λ p. p.sent.number) o
number_of None = refl
number_of (Some p) = refl

pub number_for_word : (ps : List Stored) (newest : Stored) (width : Width) (word behind : ℕ) → AreFalling (numbers_of ps) → Some newest ≡ slice_get ps 0 → word < cycle_of width
    → behind ≡ (newest.sent.number % cycle_of width + cycle_of width - word) % cycle_of width
    → option_map (λ p. p.number) (packet_for (packets_of ps) width word) ≡ option_map (λ p. p.sent.number) (slice_get ps behind)
number_for_word [] newest width word behind falls front lt e = absurd cc
number_for_word (p ∷ ps) newest width word behind falls front lt e =
    let here = e ∙ ap (λ (q : Stored). (q.sent.number % cycle_of width + cycle_of width - word) % cycle_of width) (first_is p newest ps front) in
    ap (option_map (λ q. q.number)) (for_word (p ∷ ps) width word) ∙ number_of (find (λ q. q.sent.number % cycle_of width == word) (p ∷ ps))
    ∙ ap (option_map (λ q. q.sent.number)) (place_by_word p ps width word behind falls lt here)

pub stored_above : (ps : List Stored) (newest : Stored) (number : ℕ) → AreFalling (numbers_of ps) → Some newest ≡ slice_get ps 0 → newest.sent.number < number → stored_with ps number ≡ None
stored_above [] newest number falls front lt = absurd cc
stored_above (p ∷ ps) newest number falls front lt = none_above p ps number falls (omega (arith, lt, ap (λ (q : Stored). q.sent.number) (first_is p newest ps front)))

pub stored_below : (ps : List Stored) (newest : Stored) (number : ℕ) → AreFalling (numbers_of ps) → Some newest ≡ slice_get ps 0 → number ≤ newest.sent.number
    → stored_with ps number ≡ slice_get ps (newest.sent.number - number)
stored_below [] newest number falls front le = absurd cc
stored_below (p ∷ ps) newest number falls front le =
    let same = ap (λ (q : Stored). q.sent.number) (first_is p newest ps front) in
    place_by_number p ps number falls (omega (arith, le, same)) ∙ ap (λ n. slice_get (p ∷ ps) (n - number)) (sym same)

-- ---- one more packet

pub falling_put : (x : Stored) (ps : List Stored) → AreFalling (numbers_of ps) → IsNext ps x.sent.number → AreFalling (numbers_of (x ∷ ps))
falling_put x [] falls next = tt
falling_put x (p ∷ ps) falls next = (next, falls)

-- ---- a mark

falling_mark : (number at : ℕ) (ps : List Stored) → numbers_of (with_mark number at ps) ≡ numbers_of ps
falling_mark number at [] = refl
falling_mark number at (p ∷ ps) =
    elim (number == p.sent.number) as (λ c. (if c then marked_with at p else p).sent.number ∷ numbers_of (with_mark number at ps) ≡ p.sent.number ∷ numbers_of ps) [
      | true ↦ ap (λ ns. p.sent.number ∷ ns) (falling_mark number at ps)
      | false ↦ ap (λ ns. p.sent.number ∷ ns) (falling_mark number at ps)
    ]

pub falling_marked : (number at : ℕ) (ps : List Stored) → AreFalling (numbers_of ps) → AreFalling (numbers_of (with_mark number at ps))
falling_marked number at ps falls = subst AreFalling (sym (falling_mark number at ps)) falls

pub next_marked : (number at n : ℕ) (ps : List Stored) → IsNext ps n → IsNext (with_mark number at ps) n
next_marked number at n [] next = tt
next_marked number at n (p ∷ ps) next = elim (number == p.sent.number) as (λ c. n ≡ (if c then marked_with at p else p).sent.number + 1) [ true ↦ next | false ↦ next ]

pub next_put : (x : Stored) (ps : List Stored) (size : ℕ) → 1 ≤ size → IsNext (take size (x ∷ ps)) (x.sent.number + 1)
next_put x ps zero some = absurd (omega (arith, some))
next_put x ps (suc size) some = refl

-- packets below a number are not marked by it
unmarked : (number at : ℕ) (p : Stored) (ps : List Stored) → AreFalling (numbers_of (p ∷ ps)) → p.sent.number < number → with_mark number at (p ∷ ps) ≡ p ∷ ps
unmarked number at p [] falls lt =
    let no : (number == p.sent.number) ≡ false = ne_eqb number p.sent.number (λ e. omega (arith, e, lt)) in rw no refl
unmarked number at p (q ∷ ps) falls lt =
    let no : (number == p.sent.number) ≡ false = ne_eqb number p.sent.number (λ e. omega (arith, e, lt)) in
    rw no (ap (λ l. p ∷ l) (unmarked number at q ps falls.1 (omega (arith, lt, falls.0))))

set_mark : (number at place : ℕ) (p : Stored) (ps : List Stored) (d : Stored) → AreFalling (numbers_of (p ∷ ps)) → slice_get (p ∷ ps) place ≡ Some d → d.sent.number ≡ number
    → set (p ∷ ps) place (marked_with at d) ≡ with_mark number at (p ∷ ps)
set_mark number at zero p [] d falls there is =
    let same : p ≡ d = cc in
    let yes : (number == p.sent.number) ≡ true = eq-eqb number p.sent.number (sym is ∙ ap (λ q. q.sent.number) (sym same)) in
    ap (λ q. marked_with at q ∷ []) (sym same) ∙ rw yes refl
set_mark number at zero p (q ∷ ps) d falls there is =
    let same : p ≡ d = cc in
    let here : number ≡ p.sent.number = sym is ∙ ap (λ r. r.sent.number) (sym same) in
    let yes : (number == p.sent.number) ≡ true = eq-eqb number p.sent.number here in
    ap (λ r. marked_with at r ∷ q ∷ ps) (sym same) ∙ rw yes (ap (λ l. marked_with at p ∷ l) (sym (unmarked number at q ps falls.1 (omega (arith, here, falls.0)))))
set_mark number at (suc place) p [] d falls there is = absurd cc
set_mark number at (suc place) p (q ∷ ps) d falls there is =
    let no : (number == p.sent.number) ≡ false = ne_eqb number p.sent.number (λ e. omega (arith, e, is, number_behind (λ r. r.sent.number) p (q ∷ ps) (suc place) d falls there)) in
    rw no (ap (λ l. p ∷ l) (set_mark number at place q ps d falls.1 there is))

found_number : (ps : List Stored) (number : ℕ) (d : Stored) → stored_with ps number ≡ Some d → d.sent.number ≡ number
found_number [] number d e = absurd cc
found_number (p ∷ ps) number d e =
    elim (p.sent.number == number) as (λ c. (p.sent.number == number) ≡ c → (if c then Some p else stored_with ps number) ≡ Some d → d.sent.number ≡ number) [
      | true ↦ λ f g. let same : p ≡ d = cc in ap (λ q. q.sent.number) (sym same) ∙ eqb-true p.sent.number number f
      | false ↦ λ f g. found_number ps number d g
    ] refl e

pub set_marked : (number at place : ℕ) (ps : List Stored) (d : Stored) → AreFalling (numbers_of ps) → stored_with ps number ≡ slice_get ps place → Some d ≡ slice_get ps place
    → set ps place (marked_with at d) ≡ with_mark number at ps
set_marked number at place [] d falls at_place here = absurd cc
set_marked number at place (p ∷ ps) d falls at_place here =
    set_mark number at place p ps d falls (sym here) (found_number (p ∷ ps) number d (at_place ∙ sym here))

-- a packet that is stored is found
pub is_found : (ps : List Stored) (number : ℕ) → IsSome (packet_with (packets_of ps) number) → stored_with ps number ≡ None → ⊥
is_found ps number some none = lost (packet_with (packets_of ps) number) some (with_number ps number ∙ ap (option_map (λ p. p.sent)) none)
  where
    lost : (o : Option Packet) → IsSome o → o ≡ None → ⊥
    lost None some none = search rules
    lost (Some p) some none = cc
