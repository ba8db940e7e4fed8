-- Whether a packet is due, by the ticks of the places, and the floor that the due ones set.
use Rattle.std.proofs.Common.{◌≡◌, ℕ, ◌+◌, ◌-◌, ◌^◌, ◌<◌, ◌≤◌, pos, max, true, false, cond, ◌||◌, List, [], ◌∷◌, Option, Some, None, length, map, refl, sym, ◌∙◌, ap, arith}
use Rattle.std.specs.Prelude.{nat_le, nat_lt}
use Rattle.std.specs.List.{list_any}
use Rattle.std.specs.Option.{is_some}
use Rattle.std.proofs.lemmas.Bool.{lt-ltb, le-ltb}
use Rattle.std.proofs.lemmas.Bool.Decides.{nat_tests}
use Rattle.std.proofs.lemmas.Int.{ints}
use Rattle.receiver_rules.specs.Packets.{Packet, Moment, At, Ever, is_due_by, is_past_deadline, playout_floor, IsRising}
use Rattle.receiver_rules.proofs.PacketLemmas.{any-insert}
use Rattle.reorder_buffer.specs.Inside.Release.{floor_from}
use Rattle.reorder_buffer.specs.Inside.Ring.{packet_of, packets_in, tick_of, floor_after_first, after_first, starts_below, ends_of}
use Rattle.reorder_buffer.specs.declared.ring.Held.{Held}
use Rattle.reorder_buffer.specs.declared.ring.Ends.{Ends}

-- ---- by the ticks of the places

due_same : (at deadline : ℕ) → nat_le deadline at ≡ is_due_by (At at) (pos deadline)
due_same at deadline = grind (arith, nat_tests, ints)

pub due_ticks : (at : ℕ) (xs : List (Option Held)) (bs : List (List ℕ)) → at < 2 ^ 61 → length bs ≡ length xs → list_any (λ due. nat_le due at) (map tick_of xs) ≡ list_any (is_past_deadline (At at)) (packets_in xs bs)
due_ticks at [] bs early sized = refl
due_ticks at (x ∷ xs) [] early sized = absurd (omega (arith, sized))
due_ticks at (None ∷ xs) (b ∷ bs) early sized =
    let late : nat_le (2 ^ 64 - 1) at ≡ false = grind (arith, nat_tests) in
    ap (λ c. c || list_any (λ due. nat_le due at) (map tick_of xs)) late ∙ due_ticks at xs bs early (omega (arith, sized))
due_ticks at (Some held ∷ xs) (b ∷ bs) early sized =
    ap (λ c. c || list_any (λ due. nat_le due at) (map tick_of xs)) (due_same at held.deadline)
    ∙ ap (λ c. is_due_by (At at) (pos held.deadline) || c) (due_ticks at xs bs early (omega (arith, sized)))
    ∙ sym (any-insert (is_past_deadline (At at)) (packet_of held b) (packets_in xs bs))

-- without a tick each packet is
pub due_ever : (ps : List Packet) (ends : Option Ends) → ends ≡ ends_of ps → is_some ends ≡ list_any (is_past_deadline Ever) ps
due_ever [] ends e = ap is_some e
due_ever (p ∷ ps) ends e = ap is_some e

-- ---- the floor

-- a packet that is due sets it above the lowest number
any_floor : (m : Moment) (low : ℕ) (ps : List Packet) → IsRising low ps → list_any (is_past_deadline m) ps ≡ true → low + 1 ≤ playout_floor ps m
any_floor m low [] r h = cc
any_floor m low (p ∷ ps) r h =
    elim (is_past_deadline m p) as (λ c. (c || list_any (is_past_deadline m) ps) ≡ true → low + 1 ≤ cond c (max (p.number + 1) (playout_floor ps m)) (playout_floor ps m)) [
      | true ↦ λ e. omega (arith, r.0)
      | false ↦ λ e. omega (arith, r.0, any_floor m (p.number + 1) ps r.1 e)
    ] h

none_floor : (m : Moment) (ps : List Packet) → list_any (is_past_deadline m) ps ≡ false → playout_floor ps m ≡ 0
none_floor m [] h = refl
none_floor m (p ∷ ps) h =
    elim (is_past_deadline m p) as (λ c. (c || list_any (is_past_deadline m) ps) ≡ false → cond c (max (p.number + 1) (playout_floor ps m)) (playout_floor ps m) ≡ 0) [
      | true ↦ λ e. cc
      | false ↦ λ e. none_floor m ps e
    ] h

-- a packet is due exactly where the lowest number is below the floor
pub due_starts : (m : Moment) (from floor : ℕ) (ps : List Packet) → IsRising from ps → floor ≡ floor_from from m ps → list_any (is_past_deadline m) ps ≡ starts_below floor ps
due_starts m from floor [] r e = refl
due_starts m from floor (p ∷ ps) r e =
    elim (list_any (is_past_deadline m) (p ∷ ps)) as (λ b. list_any (is_past_deadline m) (p ∷ ps) ≡ b → b ≡ nat_lt p.number floor) [
      | true ↦ λ h. sym (lt-ltb _ _ (omega (arith, e, any_floor m p.number (p ∷ ps) (omega arith, r.1) h)))
      | false ↦ λ h. sym (le-ltb _ _ (omega (arith, e, r.0, none_floor m (p ∷ ps) h)))
    ] refl

-- where the first goes out the floor is that of the others
pub due_step : (m : Moment) (from floor : ℕ) (ps : List Packet) → IsRising from ps → floor ≡ floor_from from m ps → list_any (is_past_deadline m) ps ≡ true → floor ≡ floor_from (floor_after_first ps) m (after_first ps)
due_step m from floor [] r e h = cc
due_step m from floor (p ∷ ps) r e h =
    e ∙ elim (is_past_deadline m p) as (λ c. (c || list_any (is_past_deadline m) ps) ≡ true → max from (cond c (max (p.number + 1) (playout_floor ps m)) (playout_floor ps m)) ≡ max (p.number + 1) (playout_floor ps m)) [
      | true ↦ λ d. omega (arith, r.0)
      | false ↦ λ d. omega (arith, r.0, any_floor m (p.number + 1) ps r.1 d)
    ] h

pub due_rising : (m : Moment) (from : ℕ) (ps : List Packet) → IsRising from ps → list_any (is_past_deadline m) ps ≡ true → IsRising (floor_after_first ps) (after_first ps)
due_rising m from [] r h = cc
due_rising m from (p ∷ ps) r h = r.1

pub due_end : (m : Moment) (from floor : ℕ) (ps : List Packet) → floor ≡ floor_from from m ps → list_any (is_past_deadline m) ps ≡ false → from ≡ floor
due_end m from floor ps e h = omega (arith, e, none_floor m ps h)

-- ---- the first packet

pub first_due : (at deadline : ℕ) (p : Packet) (ps : List Packet) → p.deadline ≡ pos deadline → deadline ≤ at → list_any (is_past_deadline (At at)) (p ∷ ps) ≡ true
first_due at deadline p ps e h =
    let due : is_due_by (At at) (pos deadline) ≡ true = sym (due_same at deadline) ∙ (grind (arith, nat_tests)) in
    ap (λ c. c || list_any (is_past_deadline (At at)) ps) (ap (is_due_by (At at)) e ∙ due)
