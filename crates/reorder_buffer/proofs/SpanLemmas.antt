-- Numbers within a span: one more, and the first and the last of them.
use Rattle.std.proofs.Common.{◌≡◌, ℕ, ◌+◌, ◌<◌, ◌≤◌, min, max, true, false, cond, ◌||◌, List, [], ◌∷◌, Option, Some, None, refl, sym, ◌∙◌, ap, arith, subst}
use Rattle.std.specs.Prelude.{nat_lt, nat_le, ◌==◌}
use Rattle.std.proofs.lemmas.Bool.{ltb-true, ltb-false, leb-false, or_parts}
use Rattle.std.proofs.lemmas.Bool.Decides.{nat_tests}
use Rattle.std.specs.List.{list_any}
use Rattle.receiver_rules.specs.Packets.{Packet, distance, insert_by_number, IsRising}
use Rattle.reorder_buffer.specs.Inside.Span.{AllBelow, IsWithin}
use Rattle.reorder_buffer.specs.Inside.Ring.{first_number, last_number, ends_of, ends_and}
use Rattle.reorder_buffer.specs.declared.ring.Ends.{Ends}

pub below-insert : (bound : ℕ) (p : Packet) (ps : List Packet) → p.number < bound → AllBelow bound ps → AllBelow bound (insert_by_number p ps)
below-insert bound p [] h b = (h, tt)
below-insert bound p (q ∷ qs) h b =
    elim (nat_lt p.number q.number) as (λ c. AllBelow bound (cond c (p ∷ q ∷ qs) (q ∷ insert_by_number p qs))) [
      | true ↦ (h, (b.0, b.1))
      | false ↦ (b.0, below-insert bound p qs h b.1)
    ]

-- numbers that are all less than the span away
below-near : (span : ℕ) (p : Packet) (ps : List Packet) → list_any (λ q. nat_le span (distance q.number p.number)) ps ≡ false → AllBelow (p.number + span) ps
below-near span p [] h = tt
below-near span p (q ∷ qs) h =
    let parts = or_parts (nat_le span (distance q.number p.number)) (list_any (λ k. nat_le span (distance k.number p.number)) qs) h in
    (omega (arith, leb-false _ _ parts.0), below-near span p qs parts.1)

pub within-insert : (span : ℕ) (p : Packet) (ps : List Packet) → 1 ≤ span → list_any (λ q. nat_le span (distance q.number p.number)) ps ≡ false → IsWithin span ps → IsWithin span (insert_by_number p ps)
within-insert span p [] s h w = tt
within-insert span p (q ∷ qs) s h w =
    elim (nat_lt p.number q.number) as (λ c. IsWithin span (cond c (p ∷ q ∷ qs) (q ∷ insert_by_number p qs))) [
      | true ↦ below-near span p (q ∷ qs) h
      | false ↦
          let parts = or_parts (nat_le span (distance q.number p.number)) (list_any (λ k. nat_le span (distance k.number p.number)) qs) h in
          below-insert (q.number + span) p qs (omega (arith, leb-false _ _ parts.0)) w
    ]

-- each number lies between two
abbrev IsBetween : ℕ → ℕ → List Packet → Type 0
IsBetween first last [] = Unit {0}
IsBetween first last (p ∷ ps) = (first ≤ p.number) × (p.number ≤ last) × IsBetween first last ps

between : (first last low : ℕ) (ps : List Packet) → first ≤ low → IsRising low ps → AllBelow (last + 1) ps → IsBetween first last ps
between first last low [] h r b = tt
between first last low (p ∷ ps) h r b = (omega (arith, r.0), omega (arith, b.0), between first last (p.number + 1) ps (omega (arith, r.0)) r.1 b.1)

near_between : (capacity n first last : ℕ) (ps : List Packet) → IsBetween first last ps → nat_le capacity (distance first n) ≡ false → nat_le capacity (distance last n) ≡ false → list_any (λ p. nat_le capacity (distance p.number n)) ps ≡ false
near_between capacity n first last [] b f l = refl
near_between capacity n first last (p ∷ ps) b f l = grind (arith, b.0, b.1, near_between capacity n first last ps b.2 f l)

far_member : (capacity n k : ℕ) (ps : List Packet) → list_any (λ p. p.number == k) ps ≡ true → nat_le capacity (distance k n) ≡ true → list_any (λ p. nat_le capacity (distance p.number n)) ps ≡ true
far_member capacity n k [] f h = cc
far_member capacity n k (p ∷ ps) f h = grind (arith, far_member capacity n k ps)

pub ends_decide : (capacity n first last : ℕ) (ps : List Packet) → IsBetween first last ps → list_any (λ p. p.number == first) ps ≡ true → list_any (λ p. p.number == last) ps ≡ true
    → list_any (λ p. nat_le capacity (distance p.number n)) ps ≡ (nat_le capacity (distance first n) || nat_le capacity (distance last n))
ends_decide capacity n first last ps b f l = grind (arith, near_between capacity n first last ps b, far_member capacity n first ps f, far_member capacity n last ps l)

pub first_in : (first : ℕ) (ps : List Packet) → first_number ps ≡ Some first → list_any (λ p. p.number == first) ps ≡ true
first_in first [] e = cc
first_in first (p ∷ ps) e = let same : p.number ≡ first = cc in grind (arith, same)

from_first : (first last low : ℕ) (ps : List Packet) → first_number ps ≡ Some first → IsRising low ps → AllBelow (last + 1) ps → IsBetween first last ps
from_first first last low [] e r b = tt
from_first first last low (p ∷ ps) e r b = let same : p.number ≡ first = cc in (omega (arith, same), omega (arith, b.0), between first last (p.number + 1) ps (omega (arith, same)) r.1 b.1)

-- ---- the last

last_low : (n : ℕ) (ps : List Packet) → IsRising (n + 1) ps → n ≤ last_number n ps
last_low n [] r = omega arith
last_low n (p ∷ ps) r = let rest = last_low p.number ps r.1 in omega (arith, r.0)

last_above : (n : ℕ) (ps : List Packet) → IsRising (n + 1) ps → AllBelow (last_number n ps + 1) ps
last_above n [] r = tt
last_above n (p ∷ ps) r = (let low = last_low p.number ps r.1 in omega arith, last_above p.number ps r.1)

last_in : (n : ℕ) (p : Packet) (ps : List Packet) → list_any (λ q. q.number == last_number p.number ps) (p ∷ ps) ≡ true
last_in n p [] = grind (arith, nat_tests)
last_in n p (q ∷ qs) = grind (arith, last_in n q qs)

last-insert : (n : ℕ) (p : Packet) (ps : List Packet) → n ≤ p.number → IsRising (n + 1) ps → last_number n (insert_by_number p ps) ≡ max (last_number n ps) p.number
last-insert n p [] h r = omega arith
last-insert n p (q ∷ qs) h r =
    elim (nat_lt p.number q.number) as (λ c. nat_lt p.number q.number ≡ c → last_number n (cond c (p ∷ q ∷ qs) (q ∷ insert_by_number p qs)) ≡ max (last_number q.number qs) p.number) [
      | true ↦ λ e. let low = last_low q.number qs r.1 in omega (arith, ltb-true _ _ e)
      | false ↦ λ e. last-insert q.number p qs (ltb-false _ _ e) r.1
    ] refl

-- the ends of some packets and one more
pub ends-insert : (p : Packet) (ps : List Packet) → IsRising 0 ps → ends_of (insert_by_number p ps) ≡ Some (ends_and (ends_of ps) p.number)
ends-insert p [] r = refl
ends-insert p (q ∷ qs) r =
    elim (nat_lt p.number q.number) as (λ c. nat_lt p.number q.number ≡ c → ends_of (cond c (p ∷ q ∷ qs) (q ∷ insert_by_number p qs)) ≡ Some (record { low = min q.number p.number; high = max (last_number q.number qs) p.number })) [
      | true ↦ λ e. same p.number (last_number q.number qs) _ _ (omega (arith, ltb-true _ _ e)) (let low = last_low q.number qs r.1 in omega (arith, ltb-true _ _ e))
      | false ↦ λ e. same q.number (last_number q.number (insert_by_number p qs)) _ _ (omega (arith, ltb-false _ _ e)) (last-insert q.number p qs (ltb-false _ _ e) r.1)
    ] refl
  where
    same : (a b c d : ℕ) → a ≡ c → b ≡ d → ◌≡◌ {A = Option Ends} (Some (record { low = a; high = b })) (Some (record { low = c; high = d }))
    same a b c d e f = (λ i. Some (record { low = e i; high = f i }))

-- the first and the last of all decide
pub far_ends : (capacity n : ℕ) (p : Packet) (ps : List Packet) → IsRising 0 (p ∷ ps)
    → list_any (λ q. nat_le capacity (distance q.number n)) (p ∷ ps) ≡ (nat_le capacity (distance p.number n) || nat_le capacity (distance (last_number p.number ps) n))
far_ends capacity n p ps r =
    ends_decide capacity n p.number (last_number p.number ps) (p ∷ ps)
    (between p.number (last_number p.number ps) p.number (p ∷ ps) (omega arith) (omega arith, r.1) (let low = last_low p.number ps r.1 in omega arith, last_above p.number ps r.1))
    (grind (arith, nat_tests)) (last_in 0 p ps)

-- a number that is there is below the bound
pub below_any : (bound n : ℕ) (ps : List Packet) → AllBelow bound ps → list_any (λ p. p.number == n) ps ≡ true → n < bound
below_any bound n [] b h = cc
below_any bound n (p ∷ ps) b h =
    elim (p.number == n) as (λ c. (p.number == n) ≡ c → n < bound) [
      | true ↦ λ e. let is : p.number ≡ n = grind (arith, nat_tests) in omega (arith, b.0)
      | false ↦ λ e. below_any bound n ps b.1 (sym (ap (λ c. c || list_any (λ q. q.number == n) ps) e) ∙ h)
    ] refl

pub far_in : (capacity n : ℕ) (ps : List Packet) (e : Ends) → ends_of ps ≡ Some e → IsRising 0 ps → list_any (λ q. nat_le capacity (distance q.number n)) ps ≡ (nat_le capacity (distance e.low n) || nat_le capacity (distance e.high n))
far_in capacity n [] e b r = absurd (none_some b)
  where
    none_some : None ≡ Some e → ⊥
    none_some e = cc
far_in capacity n (p ∷ ps) e b r = far_ends capacity n p ps r ∙ ap (λ (k : Ends). nat_le capacity (distance k.low n) || nat_le capacity (distance k.high n)) (some_same b)
  where
    some_same : {x y : Ends} → Some x ≡ Some y → x ≡ y
    some_same e = cc

-- the lowest number is no higher than the highest
pub low_high : (ps : List Packet) (e : Ends) → ends_of ps ≡ Some e → IsRising 0 ps → e.low ≤ e.high
low_high [] e b r = absurd (none_some b)
  where
    none_some : None ≡ Some e → ⊥
    none_some e = cc
low_high (p ∷ ps) e b r = subst (λ (k : Ends). k.low ≤ k.high) (some_same b) (last_low p.number ps r.1)
  where
    some_same : {x y : Ends} → Some x ≡ Some y → x ≡ y
    some_same e = cc
