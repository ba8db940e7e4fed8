-- A made script is short.
use Rattle.std.proofs.Common.{◌≡◌, ◌∙◌, ◌≤◌, ◌<◌, ◌+◌, ◌*◌, ◌/◌, ◌^◌, ℕ, zero, suc, List, [], ◌∷◌, ◌++◌, length, map, reverse, nat_lt, if◌then◌else◌, Bool, true, false, refl, sym, ap, subst, arith}
use Rattle.std.specs.List.{range_with_len, flat_map, filter}
use Rattle.std.proofs.lemmas.List.{reverse-append, length-reverse}
use Rattle.seq_unwrap.specs.declared.width.Width.TheVariants.{W32}
use Rattle.receiver_rules.specs.Steps.{tick_of}
use Rattle.made_script.specs.declared.draws.Way.{Way}
use Rattle.made_script.specs.declared.draws.Way.TheVariants.{Forward, Backward}
use Rattle.made_script.specs.declared.draws.Due.{Due}
use Rattle.made_script.specs.declared.draws.Script.{Script}
use Rattle.made_script.specs.Payload.{made_payload}
use Rattle.made_script.specs.Draws.{Drawn}
use Rattle.world_rules.specs.declared.moves.Move.{Move}
use Rattle.world_rules.specs.declared.moves.Move.TheVariants.{Send, Carry, CarryBack, SenderTick, Tick, End, Renew}
use Rattle.world_rules.specs.Short.{is_end, is_send, IsWithin, IsMoveWithin, AreWithin, AreNoEnds, send_count, IsShort}
use Rattle.world_rules.specs.World.{Setup, Course}
use Rattle.rist_world.specs.Script.{AreSlots, OneSlot, IsMadeScript, micros_of, slot_count, carry_by, carries_on, carries, is_due, sends, ticks, slot_moves, moves_at}

-- ---- moves that are no end, within 2^31 ticks

-- a move is no end, and its moment lies within 2^31 ticks
pub record IsFine (move : Move) : Type 0 where
  pub going : is_end move ≡ false
  pub within : IsMoveWithin 0 move

-- each move is fine
abbrev pub AreFine : List Move → Type 0
AreFine [] = Unit {0}
AreFine (move ∷ moves) = IsFine move × AreFine moves

fine_both : (xs ys : List Move) → AreFine xs → AreFine ys → AreFine (xs ++ ys)
fine_both [] ys first second = second
fine_both (x ∷ xs) ys first second = (first.0, fine_both xs ys first.1 second)

fine_back : (xs : List Move) → AreFine xs → AreFine (reverse xs)
fine_back [] fine = tt
fine_back (x ∷ xs) fine = subst AreFine (sym (reverse-append (x ∷ []) xs)) (fine_both (reverse xs) (x ∷ []) (fine_back xs fine.1) (fine.0, tt))

fine_each : {X : Type 0} (f : X → Move) → ((x : X) → IsFine (f x)) → (xs : List X) → AreFine (map f xs)
fine_each f fine [] = tt
fine_each f fine (x ∷ xs) = (fine x, fine_each f fine xs)

fine_parts : {X : Type 0} (f : X → List Move) → ((x : X) → AreFine (f x)) → (xs : List X) → AreFine (flat_map f xs)
fine_parts f fine [] = tt
fine_parts f fine (x ∷ xs) = fine_both (f x) (flat_map f xs) (fine x) (fine_parts f fine xs)

-- ---- the moves of a slot

-- a slot's moment lies within 2^31 ticks
slot_within : (slot : ℕ) → slot ≤ 6100 → IsWithin 0 (micros_of slot)
slot_within slot few = record { low = omega arith; high = omega (arith, few) }

carry_fine : (way : Way) (link place slot : ℕ) → slot ≤ 6100 → IsFine (carry_by way link place (micros_of slot))
carry_fine Forward link place slot few = record { going = refl; within = slot_within slot few }
carry_fine Backward link place slot few = record { going = refl; within = slot_within slot few }

carries_fine : (way : Way) (links slot : ℕ) (dues : List Due) → slot ≤ 6100 → AreFine (carries way links slot dues)
carries_fine way links slot dues few =
    fine_parts (λ link. carries_on way link slot dues)
    (λ link. fine_each (λ (due : Due). carry_by way link due.place (micros_of slot)) (λ due. carry_fine way link due.place slot few) (filter (is_due way link slot) dues))
    (range_with_len 0 links)

sends_by : (b : Bool) (slot : ℕ) → slot ≤ 6100 → AreFine (if b then Send (micros_of slot) (made_payload slot) ∷ [] else [])
sends_by true slot few = (record { going = refl; within = slot_within slot few }, tt)
sends_by false slot few = tt

slot_fine : (script : Script) (slot : ℕ) (dues : List Due) → slot ≤ 6100 → AreFine (slot_moves script slot dues)
slot_fine script slot dues few =
    let begun = fine_both (sends script slot) (SenderTick (micros_of slot) ∷ []) (sends_by (nat_lt slot script.count) slot few) (record { going = refl; within = slot_within slot few }, tt) in
    let carried = fine_both (sends script slot ++ SenderTick (micros_of slot) ∷ []) (carries Forward script.links slot dues) begun (carries_fine Forward script.links slot dues few) in
    let ticked = fine_both ((sends script slot ++ SenderTick (micros_of slot) ∷ []) ++ carries Forward script.links slot dues) (ticks script.links slot) carried
    (fine_each (λ link. Tick link (micros_of slot)) (λ link. record { going = refl; within = slot_within slot few }) (range_with_len 0 script.links)) in
    fine_both (((sends script slot ++ SenderTick (micros_of slot) ∷ []) ++ carries Forward script.links slot dues) ++ ticks script.links slot) (carries Backward script.links slot dues) ticked
    (carries_fine Backward script.links slot dues few)

at_fine : (b : Bool) (script : Script) (slot : ℕ) (dues : List Due) → b ≡ true → slot ≤ 6100 → AreFine (if b then slot_moves script slot dues else End (micros_of slot) ∷ [])
at_fine true script slot dues is few = slot_fine script slot dues few
at_fine false script slot dues is few = absurd (cc (is))

-- ---- all slots

less_is : (slot n : ℕ) → slot < n → nat_lt slot n ≡ true
less_is slot n less = search (arith, less)

slots_fine : (script : Script) (setup : Setup) (from : Course) (n : ℕ) (moves : List Move) (drawn : Drawn) (to : Course) → script.count ≤ 5000 → n ≤ slot_count script → AreSlots script setup from n moves drawn to → AreFine moves
slots_fine script setup from zero moves drawn to count within slots = subst AreFine (sym slots.0.0) tt
slots_fine script setup from (suc slot) moves drawn to count within slots =
    let here = at_fine (nat_lt slot (slot_count script)) script slot slots.known.dues (less_is slot (slot_count script) (omega (arith, within))) (omega (arith, within, count)) in
    subst AreFine (sym slots.moves_are)
    (fine_both (reverse (moves_at script slot slots.known.dues)) slots.earlier (fine_back (moves_at script slot slots.known.dues) here)
    (slots_fine script setup from slot slots.earlier slots.known slots.from count (omega (arith, within)) slots.before))

no_ends : (moves : List Move) → AreFine moves → AreNoEnds moves
no_ends [] fine = tt
no_ends (move ∷ moves) fine = (fine.0.going, no_ends moves fine.1)

all_within : (moves : List Move) → AreFine moves → AreWithin 0 moves
all_within [] fine = tt
all_within (move ∷ moves) fine = (fine.0.within, all_within moves fine.1)

one_send : (b : Bool) (n m : ℕ) → n ≤ m → (if b then n + 1 else n) ≤ m + 1
one_send true n m few = omega (arith, few)
one_send false n m few = omega (arith, few)

few_sends : (moves : List Move) → send_count moves ≤ length moves
few_sends [] = omega arith
few_sends (move ∷ moves) = let more = one_send (is_send move) (send_count moves) (length moves) (few_sends moves) in omega (arith, more)

-- a made script of fewer than 2^27 moves is short
pub made_is_short : (script : Script) (setup : Setup) (from : Course) (moves : List Move) (to : Course) → script.count ≤ 5000 → length moves < 2 ^ 27 → IsMadeScript script setup from (reverse moves) to → IsShort W32 (reverse moves)
made_is_short script setup from moves to count few made =
    let fine = slots_fine script setup from (slot_count script) made.earlier made.drawn made.last count (omega arith) made.slots in
    let long = length-reverse moves in
    let sends = few_sends (reverse moves) in
    record {
      last = End (micros_of (slot_count script));
      before = made.earlier;
      is = made.moves_are;
      ends = refl;
      once = no_ends made.earlier fine;
      few = omega (arith, few, long);
      least = 0;
      within = subst (AreWithin 0) (sym made.moves_are) (slot_within (slot_count script) (omega (arith, count)), all_within made.earlier fine);
      sends = omega (arith, few, long, sends);
    }
