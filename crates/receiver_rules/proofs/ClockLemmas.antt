-- A clock, original by original.
use Rattle.std.proofs.Common.{◌≡◌, ℕ, zero, suc, ◌+◌, ◌%◌, ◌^◌, ◌<◌, ◌≤◌, pos, Bool, true, false, cond, ◌&&◌, List, [], ◌∷◌, length, take, refl, sym, ◌∙◌, ap, arith}
use Rattle.std.specs.Prelude.{ℤ, ◌==◌, ◌+ℤ◌, ◌-ℤ◌}
use Rattle.std.specs.Int.{int_min, int_max}
use Rattle.std.proofs.lemmas.Bool.{eqb-true, eqb-false, ne_eqb}
use Rattle.std.proofs.lemmas.Int.{ints, int_max_is, int_min_is}
use Rattle.receiver_rules.specs.declared.limits.Limits.{Limits}
use Rattle.receiver_rules.specs.declared.clock.Clock.{Clock}
use Rattle.receiver_rules.specs.declared.anchor.Anchor.{Anchor}
use Rattle.receiver_rules.specs.Clock.{transit_of, least_of, base_towards, clock_base, clock_of}
use Rattle.receiver_rules.specs.Seen.{least_after, clock_after, counted_clock}
use Rattle.receiver_rules.specs.Bounds.{IsMidTick, IsNearTime, IsNearBase, IsClockWithin}

-- the least of a window with one more, where the window has k of these transits
least_cons : (x : ℤ) (xs : List ℤ) (k : ℕ) → k ≤ length xs → least_of (take (suc k) (x ∷ xs)) ≡ cond (k == 0) x (int_min x (least_of (take k xs)))
least_cons x xs zero le = refl
least_cons x [] (suc k) le = absurd (omega (arith, le))
least_cons x (y ∷ ys) (suc k) le = sym (ap (λ c. cond c x (int_min x (least_of (y ∷ take k ys)))) (ne_eqb (suc k) 0 (λ e. cc)))

-- a window is among all originals
in_window : (n : ℕ) → n % 1024 ≤ n
in_window n = omega arith

least_next : (limits : Limits) (start : ℕ) (x : ℤ) (xs : List ℤ) → least_of (take (suc (length xs % 1024)) (x ∷ xs)) ≡ least_after (clock_of limits start xs) x
least_next limits start x xs = least_cons x xs (length xs % 1024) (in_window (length xs))

abbrev clock_with : ℤ → ℕ → ℤ → Clock
clock_with base originals least = record { base = base; originals = originals; least = least }

one_more : (n : ℕ) → suc n ≡ n + 1
one_more n = omega arith

with_true : (b : Bool) → (b && true) ≡ b
with_true true = refl
with_true false = refl

with_false : (b : Bool) → (b && false) ≡ false
with_false true = refl
with_false false = refl

full_count : (n : ℕ) → (n + 1) % 1024 ≡ 0 → 1024 ≡ suc (n % 1024)
full_count n e = omega (arith, e)

next_count : (n : ℕ) → ((n + 1) % 1024 ≡ 0 → ⊥) → (n + 1) % 1024 ≡ suc (n % 1024)
next_count n e = omega (arith, e)

-- the clock where the original fills the window
window_full : (limits : Limits) (start : ℕ) (x : ℤ) (xs : List ℤ) → ((length xs + 1) % 1024 == 0) ≡ true
    → clock_of limits start (x ∷ xs) ≡ clock_with (cond limits.drift (base_towards (clock_base limits start xs) (least_after (clock_of limits start xs) x)) (clock_base limits start xs)) (length xs + 1) (pos 0)
window_full limits start x xs e =
    let b : ℤ = clock_base limits start xs in
    let least : ℤ = least_of (take 1024 (x ∷ xs)) in
    ap (λ n. clock_with (cond (limits.drift && (n % 1024 == 0)) (base_towards b least) b) n (least_of (take (n % 1024) (x ∷ xs)))) (one_more (length xs))
    ∙ ap (λ k. clock_with (cond (limits.drift && k) (base_towards b least) b) (length xs + 1) (least_of (take ((length xs + 1) % 1024) (x ∷ xs)))) e
    ∙ ap (λ k. clock_with (cond k (base_towards b least) b) (length xs + 1) (least_of (take ((length xs + 1) % 1024) (x ∷ xs)))) (with_true limits.drift)
    ∙ ap (λ k. clock_with (cond limits.drift (base_towards b least) b) (length xs + 1) (least_of (take k (x ∷ xs)))) (eqb-true _ _ e)
    ∙ ap (λ l. clock_with (cond limits.drift (base_towards b l) b) (length xs + 1) (pos 0)) (ap (λ k. least_of (take k (x ∷ xs))) (full_count (length xs) (eqb-true _ _ e)) ∙ least_next limits start x xs)

-- and where it does not
window_open : (limits : Limits) (start : ℕ) (x : ℤ) (xs : List ℤ) → ((length xs + 1) % 1024 == 0) ≡ false
    → clock_of limits start (x ∷ xs) ≡ clock_with (clock_base limits start xs) (length xs + 1) (least_after (clock_of limits start xs) x)
window_open limits start x xs e =
    let b : ℤ = clock_base limits start xs in
    let moved : ℤ = base_towards b (least_of (take 1024 (x ∷ xs))) in
    ap (λ n. clock_with (cond (limits.drift && (n % 1024 == 0)) moved b) n (least_of (take (n % 1024) (x ∷ xs)))) (one_more (length xs))
    ∙ ap (λ k. clock_with (cond (limits.drift && k) moved b) (length xs + 1) (least_of (take ((length xs + 1) % 1024) (x ∷ xs)))) e
    ∙ ap (λ k. clock_with (cond k moved b) (length xs + 1) (least_of (take ((length xs + 1) % 1024) (x ∷ xs)))) (with_false limits.drift)
    ∙ ap (λ l. clock_with b (length xs + 1) l) (ap (λ k. least_of (take k (x ∷ xs))) (next_count (length xs) (eqb-false _ _ e)) ∙ least_next limits start x xs)

-- the clock of one more original is the clock after it
pub clock_follows : (limits : Limits) (start : ℕ) (x : ℤ) (xs : List ℤ) → clock_of limits start (x ∷ xs) ≡ clock_after limits (clock_of limits start xs) x
clock_follows limits start x xs =
    let c : Clock = clock_of limits start xs in
    elim ((length xs + 1) % 1024 == 0) as (λ k. ((length xs + 1) % 1024 == 0) ≡ k → clock_of limits start (x ∷ xs) ≡ cond k (clock_with (cond limits.drift (base_towards c.base (least_after c x)) c.base) (c.originals + 1) (pos 0)) (clock_with c.base (c.originals + 1) (least_after c x))) [
      | true ↦ window_full limits start x xs
      | false ↦ window_open limits start x xs
    ] refl

-- ---- how far the base has moved

mid_least : (clock : Clock) (x : ℤ) → IsMidTick clock.least → IsMidTick x → IsMidTick (least_after clock x)
mid_least clock x old new =
    elim (clock.originals % 1024 == 0) as (λ k. IsMidTick (cond k x (int_min x clock.least))) [
      | true ↦ new
      | false ↦ let is = int_min_is x clock.least in record { low = omega (arith, ints, is, old.low, new.low); high = omega (arith, ints, is, old.high, new.high) }
    ]

near_full : (limits : Limits) (clock : Clock) (x : ℤ) (time : ℕ) → IsNearTime time clock → (clock.originals + 1) % 1024 ≡ 0 → (k : Bool)
    → IsNearTime time (clock_with (cond k (base_towards clock.base x) clock.base) (clock.originals + 1) (pos 0))
near_full limits clock x time near e true =
    let lower = int_min_is x (clock.base +ℤ pos 9) in
    let upper = int_max_is (clock.base -ℤ pos 9) (int_min x (clock.base +ℤ pos 9)) in
    record {
      low = omega (arith, ints, lower, upper, near.low, e);
      high = omega (arith, ints, lower, upper, near.high, e);
      least = record { low = omega (arith, ints); high = omega (arith, ints) };
    }
near_full limits clock x time near e false =
    record { low = omega (arith, ints, near.low, e); high = omega (arith, ints, near.high, e); least = record { low = omega (arith, ints); high = omega (arith, ints) } }

-- a clock stays near the time at which its epoch opened
pub near_after : (limits : Limits) (clock : Clock) (x : ℤ) (time : ℕ) → IsNearTime time clock → IsMidTick x → IsNearTime time (clock_after limits clock x)
near_after limits clock x time near mid =
    elim ((clock.originals + 1) % 1024 == 0) as (λ k. ((clock.originals + 1) % 1024 == 0) ≡ k → IsNearTime time (cond k (clock_with (cond limits.drift (base_towards clock.base (least_after clock x)) clock.base) (clock.originals + 1) (pos 0)) (clock_with clock.base (clock.originals + 1) (least_after clock x)))) [
      | true ↦ λ e. near_full limits clock (least_after clock x) time near (eqb-true _ _ e) limits.drift
      | false ↦ λ e. record { low = omega (arith, ints, near.low); high = omega (arith, ints, near.high); least = mid_least clock x near.least mid }
    ] refl

-- a base that has moved so, for less than 2^64 originals, is near enough for deadlines
pub near_base : (time : ℕ) (clock : Clock) → IsNearTime time clock → clock.originals < 2 ^ 64 → IsNearBase time clock.base
near_base time clock near few = record { low = omega (arith, ints, near.low); high = omega (arith, ints, near.high) }

-- and no sum of two wraps
pub mid_base : (time : ℕ) (base : ℤ) → IsNearBase time base → time < 2 ^ 61 → IsMidTick base
mid_base time base near early = record { low = omega (arith, ints, near.low); high = omega (arith, ints, near.high) }

-- one more original of those that may have come
pub within_after : (limits : Limits) (clock : Clock) (x : ℤ) (time originals : ℕ) → IsClockWithin time originals clock → IsMidTick x → IsClockWithin time (originals + 1) (clock_after limits clock x)
within_after limits clock x time originals within mid =
    record { near = near_after limits clock x time within.near mid; few = omega (arith, within.few, counts) }
  where
    counts : (clock_after limits clock x).originals ≡ clock.originals + 1
    counts = elim ((clock.originals + 1) % 1024 == 0) as (λ k. (cond k (clock_with (cond limits.drift (base_towards clock.base (least_after clock x)) clock.base) (clock.originals + 1) (pos 0)) (clock_with clock.base (clock.originals + 1) (least_after clock x))).originals ≡ clock.originals + 1) [ true ↦ refl | false ↦ refl ]

pub same_clamp : {a a' b b' c c' : ℤ} → a ≡ a' → b ≡ b' → c ≡ c' → int_max a (int_min b c) ≡ int_max a' (int_min b' c')
same_clamp {a} {a'} {b} {b'} {c} {c'} p q r = ap (λ x. int_max x (int_min b c)) p ∙ ap (λ x. int_max a' (int_min x c)) q ∙ ap (λ x. int_max a' (int_min b' x)) r

-- the clock after a packet is that of the transits after it
pub counted_follows : (limits : Limits) (anchor : Anchor) (t timestamp : ℕ) (transits : List ℤ) (c : Bool)
    → counted_clock limits anchor (clock_of limits anchor.time transits) t timestamp c ≡ clock_of limits anchor.time (cond c (transit_of anchor t timestamp ∷ transits) transits)
counted_follows limits anchor t timestamp transits true = sym (clock_follows limits anchor.time (transit_of anchor t timestamp) transits)
counted_follows limits anchor t timestamp transits false = refl

-- no fewer originals may come where more may
pub within_more : (time n m : ℕ) (clock : Clock) → n ≤ m → IsClockWithin time n clock → IsClockWithin time m clock
within_more time n m clock le w = record { near = w.near; few = omega (arith, le, w.few) }
