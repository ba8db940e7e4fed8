-- The packet that opens an epoch is kept.
use Rattle.std.proofs.Common.{◌≡◌, ◌≢◌, ℕ, ◌+◌, ◌*◌, ◌^◌, ◌<◌, ◌≤◌, pos, true, false, cond, not, [], Option, Some, None, refl, sym, ap, subst, arith}
use Rattle.std.specs.Prelude.{◌==◌, nat_le, nat_lt, int_le, int_lt, ◌+ℤ◌, ◌-ℤ◌, IsSome}
use Rattle.std.specs.List.{list_any}
use Rattle.std.proofs.lemmas.Bool.{eq-eqb, lt-leb, le-ltb}
use Rattle.std.proofs.lemmas.Int.{ints}
use Rattle.seq_unwrap.specs.Nearest.{cycle_of}
use Rattle.seq_unwrap.specs.declared.width.Width.{Width}
use Rattle.seq_unwrap.specs.declared.width.Width.TheVariants.{W16, W32}
use Rattle.receiver_rules.specs.declared.verdict.Verdict.TheVariants.{Kept, Stranger, Exhausted, Late, Behind, Early, Twice, Span}
use Rattle.receiver_rules.specs.declared.limits.Limits.{Limits}
use Rattle.receiver_rules.specs.declared.anchor.Anchor.{Anchor}
use Rattle.receiver_rules.specs.Steps.{Arrival}
use Rattle.receiver_rules.specs.Packets.{Packet, distance, is_kept, verdict_of}
use Rattle.receiver_rules.specs.Epochs.{new_anchor}
use Rattle.reorder_buffer.specs.State.{State}
use Rattle.reorder_buffer.specs.Inside.Tests.{judged, anchor_at, placed_at}
use Rattle.reorder_buffer.specs.Inside.Changes.{holding, moved, clock_then, taken, is_opening, begun, opened_at}
use Rattle.reorder_buffer.proofs.StateAfterLemmas.{empty_at}
use Rattle.reorder_buffer.proofs.ReceiveLemmas.{epoch_taken}

late_never : (t d s : ℕ) → 1 ≤ d → int_le (pos t +ℤ (pos (s + d) -ℤ pos s)) (pos t) ≡ false
late_never t d s some = grind (arith, ints)

early_never : (t d s : ℕ) → int_lt (pos (t + 2 * d)) (pos t +ℤ (pos (s + d) -ℤ pos s)) ≡ false
early_never t d s = grind (arith, ints)

-- by the rules
pub first_is_kept : (limits : Limits) (t : ℕ) (arrival : Arrival) → 1 ≤ limits.playout_delay → arrival.word < 2 ^ 32 → is_kept (verdict_of limits (new_anchor t arrival) (pos t) [] t arrival) ≡ true
first_is_kept limits t arrival some word =
    let mine : not (arrival.flow == arrival.flow) ≡ false = ap not (eq-eqb arrival.flow arrival.flow refl) in
    let small : nat_le (2 ^ 62) (2 ^ 40 + arrival.word) ≡ false = lt-leb (2 ^ 62) (2 ^ 40 + arrival.word) (omega (arith, word)) in
    let late = late_never t limits.playout_delay (2 ^ 60 + arrival.timestamp) some in
    let early = early_never t limits.playout_delay (2 ^ 60 + arrival.timestamp) in
    λ i. is_kept (cond (mine i) Stranger (cond (small i) Exhausted (cond (late i) Late (cond (early i) Early Kept))))

-- by the state, in which nothing waits
opening_is_kept : (b : State) (a : Anchor) (t : ℕ) (arrival : Arrival) → b.held ≡ [] → 1 ≤ b.limits.playout_delay → arrival.word < 2 ^ 32 → is_kept (judged (begun b (Some a) t) t arrival) ≡ true
opening_is_kept b a t arrival empty some word =
    let mine : not (arrival.flow == arrival.flow) ≡ false = ap not (eq-eqb arrival.flow arrival.flow refl) in
    let small : nat_le (2 ^ 62) (2 ^ 40 + arrival.word) ≡ false = lt-leb (2 ^ 62) (2 ^ 40 + arrival.word) (omega (arith, word)) in
    let late = late_never t b.limits.playout_delay (2 ^ 60 + arrival.timestamp) some in
    let behind : nat_lt (2 ^ 40 + arrival.word) 0 ≡ false = le-ltb (2 ^ 40 + arrival.word) 0 (omega arith) in
    let early = early_never t b.limits.playout_delay (2 ^ 60 + arrival.timestamp) in
    λ i. is_kept (cond (mine i) Stranger (cond (small i) Exhausted (cond (late i) Late (cond (behind i) Behind (cond (early i) Early
    (cond (list_any (λ (p : Packet). p.number == 2 ^ 40 + arrival.word) (empty i)) Twice (cond (list_any (λ (p : Packet). nat_le b.limits.capacity (distance p.number (2 ^ 40 + arrival.word))) (empty i)) Span Kept)))))))

kept_highest : (b : State) (t : ℕ) (arrival : Arrival) → is_kept (judged b t arrival) ≡ true → IsSome (taken b t arrival).highest
kept_highest b t arrival e = subst (λ c. IsSome (moved (cond c (holding b (placed_at b t arrival)) b) t (anchor_at b t arrival) (clock_then b t arrival c) c).highest) (sym e) refl

pub small_word : (width : Width) (word : ℕ) → word < cycle_of width → word < 2 ^ 32
small_word W16 word l = omega (arith, l)
small_word W32 word l = omega (arith, l)

-- so a number is known after it
pub opened_highest : (b : State) (t : ℕ) (arrival : Arrival) → 1 ≤ b.limits.playout_delay → arrival.word < 2 ^ 32 → (taken (opened_at b t arrival.flow) t arrival).epoch ≢ b.epoch → IsSome (taken (opened_at b t arrival.flow) t arrival).highest
opened_highest b t arrival some word other =
    elim (is_opening b b.anchor t arrival.flow) as (λ c. is_opening b b.anchor t arrival.flow ≡ c → (taken (cond c (begun b b.anchor t) b) t arrival).epoch ≢ b.epoch → IsSome (taken (cond c (begun b b.anchor t) b) t arrival).highest) [
      | true ↦ opened b.anchor
      | false ↦ λ e o. absurd (o (epoch_taken b t arrival))
    ] refl other
  where
    opened : (o : Option Anchor) → is_opening b o t arrival.flow ≡ true → (taken (begun b o t) t arrival).epoch ≢ b.epoch → IsSome (taken (begun b o t) t arrival).highest
    opened None e o = absurd (o (epoch_taken (begun b None t) t arrival))
    opened (Some a) e o = kept_highest (begun b (Some a) t) t arrival (opening_is_kept b a t arrival (empty_at b a t arrival.flow e) some word)
