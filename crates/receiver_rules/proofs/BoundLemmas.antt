-- How far from the ends of the numbers a kept packet lies.
use Rattle.std.proofs.Common.{◌≡◌, ℕ, ◌+◌, ◌*◌, ◌^◌, ◌<◌, ◌≤◌, pos, true, false, cond, List, Option, Some, None, unwrap_or, refl, subst, arith}
use Rattle.std.specs.Prelude.{ℤ, nat_lt, int_le, int_lt, ◌+ℤ◌, ◌-ℤ◌, IsNone}
use Rattle.std.specs.Option.{ForSome}
use Rattle.std.proofs.lemmas.Int.{ints}
use Rattle.std.proofs.lemmas.Bool.{ltb-true}
use Rattle.receiver_rules.specs.declared.limits.Limits.{Limits}
use Rattle.receiver_rules.specs.declared.anchor.Anchor.{Anchor}
use Rattle.receiver_rules.specs.declared.anchor.Highest.{Highest}
use Rattle.receiver_rules.specs.Steps.{Arrival}
use Rattle.receiver_rules.specs.Packets.{Packet, number_of, timestamp_of, deadline_of, placed_packet, higher, highest_of, verdict_of, is_kept}
use Rattle.receiver_rules.specs.Epochs.{new_anchor}
use Rattle.receiver_rules.specs.Seen.{start_of}
use Rattle.receiver_rules.specs.Bounds.{AreInRange, IsEarlyAnchor, IsMidHighest, IsMid, IsNearBase}
use Rattle.receiver_rules.proofs.HistoryLemmas.{accepted_parts}

-- its deadline lies ahead
low_timestamp : (base : ℤ) (time from delay timestamp t : ℕ) → IsNearBase time base → time ≤ t → 2 ^ 60 ≤ from → delay ≤ 2700000 → int_le (base +ℤ (pos (timestamp + delay) -ℤ pos from)) (pos t) ≡ false → 2 ^ 59 ≤ timestamp
low_timestamp base time from delay timestamp t near since low small late = grind (arith, ints, near.low, near.high)

-- and is not too early
high_timestamp : (base : ℤ) (time from delay timestamp t : ℕ) → IsNearBase time base → from < 2 ^ 60 + 2 ^ 32 → delay ≤ 2700000 → t < 2 ^ 61 → int_lt (pos (t + 2 * delay)) (base +ℤ (pos (timestamp + delay) -ℤ pos from)) ≡ false → timestamp < 2 ^ 62
high_timestamp base time from delay timestamp t near high small early soon = grind (arith, ints, near.low, near.high)

first_number : (highest : Option Highest) (arrival : Arrival) → IsNone highest → 2 ^ 40 ≤ number_of highest arrival
first_number None arrival none = omega arith
first_number (Some highest) arrival none = cc

-- a packet that is neither late nor early may become the highest
pub mid_in_window : (limits : Limits) (a : Anchor) (base : ℤ) (t : ℕ) (highest : Option Highest) (arrival : Arrival) → AreInRange limits → IsEarlyAnchor t a → IsNearBase a.time base → t < 2 ^ 61
    → int_le (deadline_of limits a base (timestamp_of highest arrival)) (pos t) ≡ false → int_lt (pos (t + 2 * limits.playout_delay)) (deadline_of limits a base (timestamp_of highest arrival)) ≡ false
    → IsMid highest (placed_packet limits a base highest arrival)
mid_in_window limits a base t highest arrival small early near h late soon =
    record {
      first = first_number highest arrival;
      timestamp_low = low_timestamp base a.time a.timestamp limits.playout_delay (timestamp_of highest arrival) t near early.since early.low small.delay late;
      timestamp_high = high_timestamp base a.time a.timestamp limits.playout_delay (timestamp_of highest arrival) t near early.timestamp small.delay h soon;
    }

-- so may one that is kept
pub mid_when_kept : (limits : Limits) (a : Anchor) (base : ℤ) (t : ℕ) (packets : List Packet) (arrival : Arrival) → AreInRange limits → IsEarlyAnchor t a → IsNearBase a.time base → t < 2 ^ 61
    → is_kept (verdict_of limits a base packets t arrival) ≡ true → IsMid (highest_of packets) (placed_packet limits a base (highest_of packets) arrival)
mid_when_kept limits a base t packets arrival small early near h kept =
    let parts = accepted_parts limits a base packets t arrival kept in
    mid_in_window limits a base t (highest_of packets) arrival small early near h parts.in_time parts.nearest

same_some : {x y : Highest} → Some x ≡ Some y → x ≡ y
same_some e = cc

pub highest_holding : (highest : Option Highest) (p : Packet) → ForSome highest IsMidHighest → p.number < 2 ^ 62 → IsMid highest p → IsMidHighest (higher p highest)
highest_holding None p m h mid = record { low = mid.first refl; high = h; timestamp_low = mid.timestamp_low; timestamp_high = mid.timestamp_high }
highest_holding (Some highest) p m h mid =
    let old : IsMidHighest highest = m highest refl in
    elim (nat_lt highest.number p.number) as (λ c. nat_lt highest.number p.number ≡ c → IsMidHighest (cond c (record { number = p.number; timestamp = p.timestamp }) highest)) [
      | true ↦ λ e. record { low = let l : highest.number < p.number = ltb-true _ _ e in let o = old.low in omega arith; high = h; timestamp_low = mid.timestamp_low; timestamp_high = mid.timestamp_high }
      | false ↦ λ e. old
    ] refl

-- the same of the highest after it
pub holding_some : (highest : Option Highest) (p : Packet) → ForSome highest IsMidHighest → p.number < 2 ^ 62 → IsMid highest p → ForSome (Some (higher p highest)) IsMidHighest
holding_some highest p m h mid = λ x e. subst IsMidHighest (same_some e) (highest_holding highest p m h mid)

-- an epoch's anchor came when it began
pub start_is : (first : Option Anchor) (t : ℕ) (arrival : Arrival) → (unwrap_or first (new_anchor t arrival)).time ≡ start_of first t
start_is None t arrival = refl
start_is (Some anchor) t arrival = refl
