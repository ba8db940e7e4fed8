-- A packet put among those that wait leaves a sound state.
use Rattle.std.proofs.Common.{◌≡◌, ℕ, Bool, arith, suc, ◌+◌, length, List, [], ◌∷◌, ◌^◌, ◌<◌, ◌≤◌, ◌∙◌, Some, true, false, cond, refl, sym, ap, subst}
use Rattle.std.specs.Prelude.{nat_lt, nat_le, ◌==◌}
use Rattle.std.specs.List.{list_any}
use Rattle.receiver_rules.specs.declared.anchor.Highest.{Highest}
use Rattle.receiver_rules.specs.Packets.{Packet, distance, higher, insert_by_number}
use Rattle.receiver_rules.proofs.PacketLemmas.{rising-insert}
use Rattle.receiver_rules.specs.declared.clock.Clock.{Clock}
use Rattle.receiver_rules.specs.Bounds.{IsMid, IsClockWithin}
use Rattle.receiver_rules.proofs.BoundLemmas.{holding_some}
use Rattle.receiver_rules.proofs.ClockLemmas.{within_more}
use Rattle.reorder_buffer.specs.State.{State}
use Rattle.reorder_buffer.specs.Inside.Sound.{IsSound}
use Rattle.reorder_buffer.specs.Inside.Ring.{Waiting}
use Rattle.reorder_buffer.specs.Inside.Shown.{state_of}
use Rattle.reorder_buffer.specs.declared.buffer.Buffer.TheInside.{Inside}
use Rattle.reorder_buffer.specs.Inside.Changes.{holding}
use Rattle.reorder_buffer.proofs.SpanLemmas.{below-insert, within-insert}

length-insert : (p : Packet) (ps : List Packet) → length (insert_by_number p ps) ≡ suc (length ps)
length-insert p [] = refl
length-insert p (q ∷ qs) =
    elim (nat_lt p.number q.number) as (λ c. length (cond c (p ∷ q ∷ qs) (q ∷ insert_by_number p qs)) ≡ suc (suc (length qs))) [ true ↦ refl | false ↦ ap suc (length-insert p qs) ]

-- one more packet that waits makes room for one more original
pub within_held : (b : State) (p : Packet) (time : ℕ) (clock : Clock) (counts : Bool) → IsClockWithin time (cond counts (b.floor + length b.held + 1) (b.floor + length b.held)) clock
    → IsClockWithin time (b.floor + length (insert_by_number p b.held)) clock
within_held b p time clock counts w =
    within_more time (cond counts (b.floor + length b.held + 1) (b.floor + length b.held)) (b.floor + length (insert_by_number p b.held)) clock (omega (arith, length-insert p b.held, at_most counts (b.floor + length b.held))) w
  where
    at_most : (c : Bool) (n : ℕ) → cond c (n + 1) n ≤ n + 1
    at_most true n = omega arith
    at_most false n = omega arith

pub sound-holding : (b : State) (p : Packet) → IsSound b → b.floor ≤ p.number → p.number < 2 ^ 62 → list_any (λ q. q.number == p.number) b.held ≡ false → list_any (λ q. nat_le b.limits.capacity (distance q.number p.number)) b.held ≡ false → IsMid b.highest p → IsSound (holding b p)
sound-holding b p sound low high new nearest mid =
    record {
      limits = sound.limits;
      anchor = sound.anchor;
      highest = holding_some b.highest p sound.highest high mid;
      rising = rising-insert b.floor p b.held low new sound.rising;
      within = within-insert b.limits.capacity p b.held sound.limits.some nearest sound.within;
      below = below-insert (2 ^ 62) p b.held high sound.below;
      last = sound.last;
      epoch = sound.epoch;
      floor = sound.floor;
      clock = λ live a e. within_more a.time (b.floor + length b.held) (b.floor + length (insert_by_number p b.held)) b.clock (omega (arith, length-insert p b.held)) (sound.clock live a e);
    }

pub sound_after : (b after : State) (p : Packet) → after ≡ holding b p → IsSound b → b.floor ≤ p.number → p.number < 2 ^ 62 → list_any (λ q. q.number == p.number) b.held ≡ false → list_any (λ q. nat_le b.limits.capacity (distance q.number p.number)) b.held ≡ false → IsMid b.highest p → IsSound after
sound_after b after p e sound low high new nearest mid = subst IsSound (sym e) (sound-holding b p sound low high new nearest mid)

-- the fields after one more was put into the ring
pub after_hold : (fields : Inside) (b : State) → state_of fields ≡ b → (ring : Waiting) (p : Packet) (highest : Highest) → ring.packets ≡ insert_by_number p fields.ring.packets → highest ≡ higher p fields.highest
    → state_of (record { limits = fields.limits; phase = fields.phase; time = fields.time; anchor = fields.anchor; highest = Some highest; floor = fields.floor; ring = ring; last = fields.last; epoch = fields.epoch; clock = fields.clock }) ≡ holding b p
after_hold fields b view ring p highest e high =
    ap (λ ps. record { limits = fields.limits; phase = fields.phase; time = fields.time; anchor = fields.anchor; highest = Some highest; floor = fields.floor; held = ps; last = fields.last; epoch = fields.epoch; clock = fields.clock }) e
    ∙ ap (λ n. record { limits = fields.limits; phase = fields.phase; time = fields.time; anchor = fields.anchor; highest = Some n; floor = fields.floor; held = insert_by_number p fields.ring.packets; last = fields.last; epoch = fields.epoch; clock = fields.clock }) high
    ∙ ap (λ s. holding s p) view
