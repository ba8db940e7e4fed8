-- Tests on a plain program's list, as tests on the packets that it shows.
use Rattle.std.proofs.Common.{◌≡◌, ℕ, suc, ◌+◌, Bool, true, false, cond, not, ◌||◌, ◌&&◌, List, [], ◌∷◌, refl, sym, ◌∙◌, ap, arith}
use Rattle.std.specs.Prelude.{ℤ, nat_le, nat_lt, ◌==◌}
use Rattle.std.specs.List.{list_any, insert, position_or_len}
use Rattle.receiver_rules.specs.declared.limits.Limits.{Limits}
use Rattle.receiver_rules.specs.declared.anchor.Anchor.{Anchor}
use Rattle.plain_rules.specs.declared.receiver.kept.Kept.{Kept}
use Rattle.receiver_rules.specs.declared.place.Position.{Position}
use Rattle.receiver_rules.specs.Steps.{Arrival}
use Rattle.receiver_rules.specs.Packets.{Packet, Moment, is_due_by, distance, is_played_out, is_buffered, is_behind_playout, is_duplicate, is_beyond_capacity, insert_by_number, verdict_of, first_verdict, tests_of, placed_packet, highest_of}
use Rattle.receiver_rules.proofs.PacketLemmas.{any_same}
use Rattle.receiver_rules.specs.Seen.{packet_at, IsPlaceOf}
use Rattle.plain_rules.specs.Receiver.Kept.{kept_packet, kept_packets}
use Rattle.plain_rules.specs.Inside.ReceiverKept.{at_number, at_deadline}

any_kept : (f : Packet → Bool) (ks : List Kept) → list_any f (kept_packets ks) ≡ list_any (λ k. f (kept_packet k)) ks
any_kept f [] = refl
any_kept f (k ∷ ks) = ap (λ b. f (kept_packet k) || b) (any_kept f ks)

pub out_plain : (m : Moment) (n : ℕ) (ks : List Kept) → list_any (λ k. nat_le n k.place.number && is_due_by m k.place.deadline) ks ≡ is_played_out (kept_packets ks) m (at_number n)
out_plain m n ks = sym (any_kept (λ k. nat_le n k.number && is_due_by m k.deadline) ks)

and_swap : (a b : Bool) → (a && b) ≡ (b && a)
and_swap true true = refl
and_swap true false = refl
and_swap false true = refl
and_swap false false = refl

pub behind_plain : (m : Moment) (n : ℕ) (ks : List Kept) → list_any (λ k. nat_le n k.place.number && is_played_out (kept_packets ks) m (at_number k.place.number)) ks ≡ is_behind_playout (kept_packets ks) m (at_number n)
behind_plain m n ks =
    sym (any_kept (λ k. nat_le n k.number && is_played_out (kept_packets ks) m k) ks)
    ∙ any_same (λ k. nat_le n k.number && is_played_out (kept_packets ks) m k) (λ k. is_played_out (kept_packets ks) m k && nat_le n k.number) (λ k. and_swap (nat_le n k.number) (is_played_out (kept_packets ks) m k)) (kept_packets ks)

pub twice_plain : (n : ℕ) (ks : List Kept) → list_any (λ k. k.place.number == n) ks ≡ is_duplicate (kept_packets ks) (at_number n)
twice_plain n ks = sym (any_kept (λ k. k.number == n) ks)

pub span_plain : (limits : Limits) (m : Moment) (n : ℕ) (ks : List Kept) → list_any (λ k. nat_le limits.capacity (distance k.place.number n) && not (is_played_out (kept_packets ks) m (at_number k.place.number))) ks ≡ is_beyond_capacity limits (kept_packets ks) m (at_number n)
span_plain limits m n ks =
    sym (any_kept (λ k. nat_le limits.capacity (distance k.number n) && not (is_played_out (kept_packets ks) m k)) ks)
    ∙ any_same (λ k. nat_le limits.capacity (distance k.number n) && not (is_played_out (kept_packets ks) m k)) (λ k. not (is_played_out (kept_packets ks) m k) && nat_le limits.capacity (distance k.number n))
    (λ k. and_swap (nat_le limits.capacity (distance k.number n)) (not (is_played_out (kept_packets ks) m k))) (kept_packets ks)

pub waiting_plain : (m : Moment) (ks : List Kept) → list_any (λ k. not (is_played_out (kept_packets ks) m (at_number k.place.number))) ks ≡ list_any (is_buffered (kept_packets ks) m) (kept_packets ks)
waiting_plain m ks = sym (any_kept (λ k. not (is_played_out (kept_packets ks) m k)) ks)

-- the verdict by number and deadline is that on the arrival
pub judged_plain : (limits : Limits) (anchor : Anchor) (base : ℤ) (ks : List Packet) (t : ℕ) (arrival : Arrival) (place : Position) → IsPlaceOf place (placed_packet limits anchor base (highest_of ks) arrival)
    → first_verdict (tests_of limits anchor ks t arrival.flow (at_deadline place.number place.deadline)) ≡ verdict_of limits anchor base ks t arrival
judged_plain limits anchor base ks t arrival place is =
    ap (λ n. first_verdict (tests_of limits anchor ks t arrival.flow (at_deadline n place.deadline))) is.number
    ∙ ap (λ d. first_verdict (tests_of limits anchor ks t arrival.flow (at_deadline (placed_packet limits anchor base (highest_of ks) arrival).number d))) is.deadline

-- a packet stands at its place
pub packet_plain : (place : Position) (p : Packet) → IsPlaceOf place p → packet_at place p.payload ≡ p
packet_plain place p is =
    λ i. record { number = is.number i; timestamp = is.timestamp i; deadline = is.deadline i; payload = p.payload }

-- before the first of a higher number a packet stands in order
pub insert_plain : (k : Kept) (ks : List Kept) → kept_packets (insert ks (position_or_len (λ j. nat_lt k.place.number j.place.number) ks) k) ≡ insert_by_number (kept_packet k) (kept_packets ks)
insert_plain k [] = refl
insert_plain k (j ∷ js) =
    elim (nat_lt k.place.number j.place.number) as (λ c. kept_packets (insert (j ∷ js) (cond (not c) (1 + position_or_len (λ i. nat_lt k.place.number i.place.number) js) 0) k) ≡ cond c (kept_packet k ∷ kept_packet j ∷ kept_packets js) (kept_packet j ∷ insert_by_number (kept_packet k) (kept_packets js))) [
      | true ↦ refl
      | false ↦ later (position_or_len (λ i. nat_lt k.place.number i.place.number) js) (insert_plain k js)
    ]
  where
    later : (n : ℕ) → kept_packets (insert js n k) ≡ insert_by_number (kept_packet k) (kept_packets js) → kept_packets (insert (j ∷ js) (1 + n) k) ≡ kept_packet j ∷ insert_by_number (kept_packet k) (kept_packets js)
    later n e = let s : 1 + n ≡ suc n = omega arith in ap (λ m. kept_packets (insert (j ∷ js) m k)) s ∙ ap (λ ps. kept_packet j ∷ ps) e
