-- The packets of places.
use Rattle.std.proofs.Common.{◌≡◌, ℕ, zero, suc, ◌+◌, ◌<◌, ◌≤◌, Bool, true, false, ◌||◌, List, [], ◌∷◌, Option, Some, None, length, refl, sym, ◌∙◌, ap, arith}
use Rattle.std.specs.Prelude.{◌==◌, slice_index_or, slice_set}
use Rattle.std.proofs.lemmas.Bool.{or_parts}
use Rattle.std.specs.List.{list_any}
use Rattle.receiver_rules.specs.Packets.{Packet, insert_by_number}
use Rattle.receiver_rules.proofs.PacketLemmas.{any-insert}
use Rattle.reorder_buffer.specs.Inside.Ring.{packet_of, packets_in}
use Rattle.reorder_buffer.specs.declared.ring.Held.{Held}

-- the place holds this number
abbrev pub has_number : Option Held → ℕ → Bool
has_number None number = false
has_number (Some held) number = held.number == number

abbrev pub place_at : List (Option Held) → ℕ → Option Held
place_at places k = slice_index_or places k None

-- ---- a number among those of the places

none_has : (n : ℕ) (xs : List (Option Held)) (bs : List (List ℕ)) → length bs ≡ length xs → ((k : ℕ) → has_number (place_at xs k) n ≡ false) → list_any (λ p. p.number == n) (packets_in xs bs) ≡ false
none_has n [] bs l h = refl
none_has n (x ∷ xs) [] l h = refl
none_has n (None ∷ xs) (b ∷ bs) l h = none_has n xs bs (omega (arith, l)) (λ k. h (suc k))
none_has n (Some held ∷ xs) (b ∷ bs) l h =
    any-insert (λ p. p.number == n) (packet_of held b) (packets_in xs bs)
    ∙ ap (λ c. c || list_any (λ p. p.number == n) (packets_in xs bs)) (h zero)
    ∙ none_has n xs bs (omega (arith, l)) (λ k. h (suc k))

-- a number that can stand at one place alone
pub has_at : (i n : ℕ) (xs : List (Option Held)) (bs : List (List ℕ)) → length bs ≡ length xs → ((k : ℕ) → has_number (place_at xs k) n ≡ true → k ≡ i)
    → list_any (λ p. p.number == n) (packets_in xs bs) ≡ has_number (place_at xs i) n
has_at i n [] bs l h = refl
has_at i n (x ∷ xs) [] l h = absurd (omega (arith, l))
has_at zero n (None ∷ xs) (b ∷ bs) l h = none_has n xs bs (omega (arith, l)) (λ k. not_true _ (λ e. let is : suc k ≡ 0 = h (suc k) e in omega arith))
  where
    not_true : (c : Bool) → (c ≡ true → ⊥) → c ≡ false
    not_true true f = absurd (f refl)
    not_true false f = refl
has_at zero n (Some held ∷ xs) (b ∷ bs) l h =
    any-insert (λ p. p.number == n) (packet_of held b) (packets_in xs bs)
    ∙ ap (λ c. (held.number == n) || c) (none_has n xs bs (omega (arith, l)) (λ k. not_true _ (λ e. let is : suc k ≡ 0 = h (suc k) e in omega arith)))
    ∙ or_false _
  where
    not_true : (c : Bool) → (c ≡ true → ⊥) → c ≡ false
    not_true true f = absurd (f refl)
    not_true false f = refl

    or_false : (c : Bool) → (c || false) ≡ c
    or_false true = refl
    or_false false = refl
has_at (suc i) n (None ∷ xs) (b ∷ bs) l h = has_at i n xs bs (omega (arith, l)) (λ k e. let is : suc k ≡ suc i = h (suc k) e in omega arith)
has_at (suc i) n (Some held ∷ xs) (b ∷ bs) l h =
    any-insert (λ p. p.number == n) (packet_of held b) (packets_in xs bs)
    ∙ ap (λ c. c || list_any (λ p. p.number == n) (packets_in xs bs)) (not_true _ (λ e. let is : zero ≡ suc i = h zero e in omega arith))
    ∙ has_at i n xs bs (omega (arith, l)) (λ k e. let is : suc k ≡ suc i = h (suc k) e in omega arith)
  where
    not_true : (c : Bool) → (c ≡ true → ⊥) → c ≡ false
    not_true true f = absurd (f refl)
    not_true false f = refl

-- ---- a packet put at a free place, and taken away

swap_insert : (p q : Packet) (ps : List Packet) → (p.number == q.number) ≡ false → insert_by_number p (insert_by_number q ps) ≡ insert_by_number q (insert_by_number p ps)
swap_insert p q [] h = grind (arith, h)
swap_insert p q (x ∷ xs) h = grind (arith, h, swap_insert p q xs h)

pub put_at : (i : ℕ) (held : Held) (block : List ℕ) (xs : List (Option Held)) (bs : List (List ℕ)) → length bs ≡ length xs → i < length xs → place_at xs i ≡ None
    → list_any (λ p. p.number == held.number) (packets_in xs bs) ≡ false → packets_in (slice_set xs i (Some held)) (slice_set bs i block) ≡ insert_by_number (packet_of held block) (packets_in xs bs)
put_at i held block [] bs l inside free new = absurd (omega arith)
put_at i held block (x ∷ xs) [] l inside free new = absurd (omega (arith, l))
put_at zero held block (None ∷ xs) (b ∷ bs) l inside free new = refl
put_at zero held block (Some other ∷ xs) (b ∷ bs) l inside free new = absurd (some_none free)
  where
    some_none : Some other ≡ None → ⊥
    some_none e = cc
put_at (suc i) held block (None ∷ xs) (b ∷ bs) l inside free new = put_at i held block xs bs (omega (arith, l)) (omega (arith, inside)) free new
put_at (suc i) held block (Some other ∷ xs) (b ∷ bs) l inside free new =
    let parts = or_parts (other.number == held.number) (list_any (λ p. p.number == held.number) (packets_in xs bs)) (sym (any-insert (λ p. p.number == held.number) (packet_of other b) (packets_in xs bs)) ∙ new) in
    ap (insert_by_number (packet_of other b)) (put_at i held block xs bs (omega (arith, l)) (omega (arith, inside)) free parts.1)
    ∙ swap_insert (packet_of other b) (packet_of held block) (packets_in xs bs) parts.0

-- ---- ---- how many packets places hold

pub length-insert : (p : Packet) (ps : List Packet) → length (insert_by_number p ps) ≡ length ps + 1
length-insert p [] = refl
length-insert p (q ∷ qs) = grind (arith, length-insert p qs)

pub few_in : (xs : List (Option Held)) (bs : List (List ℕ)) → length (packets_in xs bs) ≤ length xs
few_in [] bs = omega arith
few_in (x ∷ xs) [] = omega arith
few_in (None ∷ xs) (b ∷ bs) = let rest = few_in xs bs in omega arith
few_in (Some held ∷ xs) (b ∷ bs) = let rest = few_in xs bs in omega (arith, length-insert (packet_of held b) (packets_in xs bs))
