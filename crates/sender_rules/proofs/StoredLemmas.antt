-- Packets whose numbers fall one by one, and the one that a test finds.
use Rattle.std.proofs.Common.{◌≡◌, ℕ, zero, suc, ◌+◌, ◌%◌, ◌<◌, ◌≤◌, Bool, true, false, List, [], ◌∷◌, map, take, Some, None, refl, sym, ap, ◌∙◌, arith}
use Rattle.std.specs.Prelude.{◌==◌, slice_get}
use Rattle.std.specs.List.{find}
use Rattle.std.proofs.lemmas.Bool.{eq-eqb, ne_eqb}
use Rattle.std.proofs.Math.Nat.{div-add-mod}
use Rattle.seq_unwrap.specs.declared.width.Width.{Width}
use Rattle.seq_unwrap.specs.declared.width.Width.TheVariants.{W16, W32}
use Rattle.seq_unwrap.specs.Nearest.{cycle_of}
use Rattle.sender_rules.specs.Sendings.{Packet, AreFalling, AreNumbered}
use Rattle.sender_rules.specs.Stored.{packet_for}

module _ {X : Type 0} where
  -- a test that holds at a place, and at none before it, finds what stands there
  pub find_at : (f : X → Bool) (xs : List X) (k : ℕ) → ((j : ℕ) (x : X) → j < k → slice_get xs j ≡ Some x → f x ≡ false)
      → ((x : X) → slice_get xs k ≡ Some x → f x ≡ true) → find f xs ≡ slice_get xs k
  find_at f [] k before here = refl
  find_at f (x ∷ xs) zero before here = let yes : f x ≡ true = here x refl in rw yes refl
  find_at f (x ∷ xs) (suc k) before here =
      let no : f x ≡ false = before 0 x (omega arith) refl in
      rw no (find_at f xs k (λ j y lt e. before (suc j) y (omega (arith, lt)) e) here)

  -- a test that holds nowhere finds nothing
  pub find_nowhere : (f : X → Bool) (xs : List X) → ((j : ℕ) (x : X) → slice_get xs j ≡ Some x → f x ≡ false) → find f xs ≡ None
  find_nowhere f [] none = refl
  find_nowhere f (x ∷ xs) none = let no : f x ≡ false = none 0 x refl in rw no (find_nowhere f xs (λ j y e. none (suc j) y e))

  -- how far a number lies behind the newest one
  pub number_behind : (number : X → ℕ) (x : X) (xs : List X) (j : ℕ) (y : X) → AreFalling (map number (x ∷ xs)) → slice_get (x ∷ xs) j ≡ Some y → number y + j ≡ number x
  number_behind number x xs zero y falls e = let same : x ≡ y = cc in omega (arith, ap number same)
  number_behind number x [] (suc j) y falls e = absurd cc
  number_behind number x (z ∷ xs) (suc j) y falls e = omega (arith, number_behind number z xs j y falls.1 e, falls.0)

  -- fewer of them still fall
  pub falling_take : (number : X → ℕ) (k : ℕ) (xs : List X) → AreFalling (map number xs) → AreFalling (map number (take k xs))
  falling_take number zero xs falls = tt
  falling_take number (suc k) [] falls = tt
  falling_take number (suc zero) (x ∷ []) falls = tt
  falling_take number (suc (suc k)) (x ∷ []) falls = tt
  falling_take number (suc zero) (x ∷ y ∷ xs) falls = tt
  falling_take number (suc (suc k)) (x ∷ y ∷ xs) falls = (falls.0, falling_take number (suc k) (y ∷ xs) falls.1)

  -- what stands at a place of the first ones
  pub place_in_take : (k : ℕ) (xs : List X) (j : ℕ) (x : X) → slice_get (take k xs) j ≡ Some x → j < k
  place_in_take zero xs j x e = absurd cc
  place_in_take (suc k) [] j x e = absurd cc
  place_in_take (suc k) (y ∷ xs) zero x e = omega arith
  place_in_take (suc k) (y ∷ xs) (suc j) x e = omega (arith, place_in_take k xs j x e)

-- two numbers less than a cycle apart end in different words
pub apart : (width : Width) (a b : ℕ) → a < b → b < a + cycle_of width → b % cycle_of width ≡ a % cycle_of width → ⊥
apart W16 a b lt near e = omega (arith, lt, near, e, div-add-mod a 65536, div-add-mod b 65536)
apart W32 a b lt near e = omega (arith, lt, near, e, div-add-mod a 4294967296, div-add-mod b 4294967296)

pub cycle_holds : (width : Width) → 65536 ≤ cycle_of width
cycle_holds W16 = omega arith
cycle_holds W32 = omega arith

-- places and numbers go together
pub number_and_place : (ps : List Packet) (j k : ℕ) (p q : Packet) → AreNumbered ps → slice_get ps j ≡ Some p → slice_get ps k ≡ Some q → p.number + j ≡ q.number + k
number_and_place [] j k p q numbered there here = absurd cc
number_and_place (first ∷ ps) j k p q numbered there here =
    number_behind (λ r. r.number) first ps j p numbered there ∙ sym (number_behind (λ r. r.number) first ps k q numbered here)

pub word_finds : (size : ℕ) (width : Width) (sent : List Packet) (k : ℕ) (packet : Packet) → AreNumbered sent → size ≤ 65536
    → slice_get (take size sent) k ≡ Some packet → packet_for (take size sent) width (packet.number % cycle_of width) ≡ Some packet
word_finds size width sent k packet numbered few here =
    let falls = falling_take (λ p. p.number) size sent numbered in
    find_at (λ p. p.number % cycle_of width == packet.number % cycle_of width) (take size sent) k
    (λ j p lt there.
    let together = number_and_place (take size sent) j k p packet falls there here in
    ne_eqb (p.number % cycle_of width) (packet.number % cycle_of width)
    (apart width packet.number p.number (omega (arith, lt, together)) (omega (arith, lt, cycle_holds width, few, place_in_take size sent k packet here, together))))
    (λ p there. eq-eqb (p.number % cycle_of width) (packet.number % cycle_of width) (let same : p ≡ packet = cc in ap (λ q. q.number % cycle_of width) same))
    ∙ here
