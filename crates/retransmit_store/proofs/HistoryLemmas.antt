-- What a store keeps after a history.
use Rattle.std.proofs.Common.{◌≡◌, ◌∙◌, ℕ, zero, suc, ◌<◌, true, false, List, [], ◌∷◌, map, take, Option, Some, None, refl, sym, ap, subst, arith}
use Rattle.std.specs.Prelude.{◌==◌, if◌then◌else◌}
use Rattle.std.proofs.lemmas.Bool.{eq-eqb, ne_eqb}
use Rattle.sender_rules.specs.Sendings.{Packet, Sending, First, Again, AreFalling, AreNumbered, sent_packets, last_sent_again}
use Rattle.sender_rules.specs.Stored.{stored_packets, packet_with, stored_mark}
use Rattle.retransmit_store.specs.declared.store.Stored.{Stored}
use Rattle.retransmit_store.specs.State.{StoreState, IsStoreAfter, IsNext, packets_in, packets_of, stored_after, stored_with, mark_in, marked_with, with_mark}
use Rattle.sender_rules.proofs.StoredLemmas.{falling_take}

-- ---- what is stored

packets_after : (history : List Sending) (packets : List Packet) → packets_of (map (stored_after history) packets) ≡ packets
packets_after history [] = refl
packets_after history (packet ∷ packets) = ap (λ ps. packet ∷ ps) (packets_after history packets)

pub stored_are : (state : StoreState) (history : List Sending) → IsStoreAfter state history → packets_in state ≡ stored_packets state.size history
stored_are state history after = ap packets_of after.packets ∙ packets_after history (stored_packets state.size history)

mark_stored : (history : List Sending) (packets : List Packet) (number : ℕ) → mark_in (stored_with (map (stored_after history) packets) number) ≡ stored_mark history (packet_with packets number)
mark_stored history [] number = refl
mark_stored history (packet ∷ packets) number =
    elim (packet.number == number) as (λ c. mark_in (if c then Some (stored_after history packet) else stored_with (map (stored_after history) packets) number)
    ≡ stored_mark history (if c then Some packet else packet_with packets number)) [
      | true ↦ refl
      | false ↦ mark_stored history packets number
    ]

pub marks_are : (state : StoreState) (history : List Sending) (number : ℕ) → IsStoreAfter state history
    → mark_in (stored_with state.packets number) ≡ stored_mark history (packet_with (stored_packets state.size history) number)
marks_are state history number after = ap (λ ps. mark_in (stored_with ps number)) after.packets ∙ mark_stored history (stored_packets state.size history) number

-- ---- one more packet

-- a new packet leaves the marks of those below it
same_marks : (new : Packet) (history : List Sending) (newest : Packet) (packets : List Packet) → AreNumbered (newest ∷ packets) → newest.number < new.number
    → map (stored_after history) (newest ∷ packets) ≡ map (stored_after (First new ∷ history)) (newest ∷ packets)
same_marks new history newest [] numbered lt =
    let no : (new.number == newest.number) ≡ false = ne_eqb new.number newest.number (λ e. omega (arith, e, lt)) in rw no refl
same_marks new history newest (next ∷ packets) numbered lt =
    let no : (new.number == newest.number) ≡ false = ne_eqb new.number newest.number (λ e. omega (arith, e, lt)) in
    rw no (ap (λ ps. stored_after history newest ∷ ps) (same_marks new history next packets numbered.1 (omega (arith, lt, numbered.0))))

-- the numbers of the packets that are stored fall, and the next is one above them
abbrev pub FollowsOn : Packet → List Packet → Type 0
FollowsOn new packets = AreFalling (new.number ∷ map (λ p. p.number) packets)

marks_stay : (new : Packet) (history : List Sending) (packets : List Packet) → FollowsOn new packets
    → map (stored_after history) packets ≡ map (stored_after (First new ∷ history)) packets
marks_stay new history [] falls = refl
marks_stay new history (newest ∷ packets) falls = same_marks new history newest packets falls.1 (omega (arith, falls.0))

follows_take : (n : ℕ) (new : Packet) (packets : List Packet) → FollowsOn new packets → FollowsOn new (take n packets)
follows_take n new packets falls = falling_take (λ p. p.number) (suc n) (new ∷ packets) falls

-- the newest mark is none
new_unmarked : (new : Packet) (history : List Sending) → last_sent_again (First new ∷ history) new.number ≡ None
new_unmarked new history = let yes : (new.number == new.number) ≡ true = eq-eqb new.number new.number refl in rw yes refl

take_map : (f : Packet → Stored) (n : ℕ) (packets : List Packet) → take n (map f packets) ≡ map f (take n packets)
take_map f zero packets = refl
take_map f (suc n) [] = refl
take_map f (suc n) (packet ∷ packets) = ap (λ ps. f packet ∷ ps) (take_map f n packets)

take_fewer : (n : ℕ) (packets : List Packet) → take n (take (suc n) packets) ≡ take n packets
take_fewer zero packets = refl
take_fewer (suc n) [] = refl
take_fewer (suc n) (packet ∷ packets) = ap (λ ps. packet ∷ ps) (take_fewer n packets)

pub put_packets : (size : ℕ) (new : Packet) (history : List Sending) (packets : List Stored) → packets ≡ map (stored_after history) (stored_packets size history)
    → FollowsOn new (stored_packets size history)
    → take size (record { sent = new; mark = None } ∷ packets) ≡ map (stored_after (First new ∷ history)) (stored_packets size (First new ∷ history))
put_packets zero new history packets is falls = refl
put_packets (suc n) new history packets is falls =
    let x : Stored = record { sent = new; mark = None } in
    let fewer : take n (stored_packets (suc n) history) ≡ take n (sent_packets history) = take_fewer n (sent_packets history) in
    let rest : take n packets ≡ map (stored_after (First new ∷ history)) (take n (sent_packets history)) =
    ap (take n) is ∙ take_map (stored_after history) n (stored_packets (suc n) history) ∙ ap (map (stored_after history)) fewer
    ∙ marks_stay new history (take n (sent_packets history)) (subst (FollowsOn new) fewer (follows_take n new (stored_packets (suc n) history) falls)) in
    ap (λ ps. x ∷ ps) rest
    ∙ ap (λ (m : Option ℕ). record { sent = new; mark = m } ∷ map (stored_after (First new ∷ history)) (take n (sent_packets history))) (sym (new_unmarked new history))

-- the packet that a store may take follows on those that it keeps
follows : (new : Packet) (state : StoreState) (history : List Sending) → AreFalling (map (λ p. p.sent.number) state.packets) → IsNext state.packets new.number
    → IsStoreAfter state history → FollowsOn new (stored_packets state.size history)
follows new state history falls next after = subst (FollowsOn new) (stored_are state history after) (on new state.packets falls next)
  where
    on : (new : Packet) (ps : List Stored) → AreFalling (map (λ p. p.sent.number) ps) → IsNext ps new.number → FollowsOn new (packets_of ps)
    on new [] falls next = tt
    on new (p ∷ []) falls next = (next, tt)
    on new (p ∷ q ∷ ps) falls next = (next, (falls.0, (on p.sent (q ∷ ps) falls.1 falls.0).1))

pub put_after : (new : Packet) (state : StoreState) (history : List Sending) → AreFalling (map (λ p. p.sent.number) state.packets) → IsNext state.packets new.number
    → IsStoreAfter state history → IsStoreAfter (record { size = state.size; packets = take state.size (record { sent = new; mark = None } ∷ state.packets) }) (First new ∷ history)
put_after new state history falls next after =
    record { packets = put_packets state.size new history state.packets after.packets (follows new state history falls next after) }

-- ---- a mark

pub mark_packets : (number at : ℕ) (history : List Sending) (packets : List Packet)
    → with_mark number at (map (stored_after history) packets) ≡ map (stored_after (Again number at ∷ history)) packets
mark_packets number at history [] = refl
mark_packets number at history (packet ∷ packets) =
    elim (number == packet.number) as (λ c. (if c then marked_with at (stored_after history packet) else stored_after history packet) ∷ with_mark number at (map (stored_after history) packets)
    ≡ record { sent = packet; mark = if c then Some at else last_sent_again history packet.number } ∷ map (stored_after (Again number at ∷ history)) packets) [
      | true ↦ ap (λ ps. record { sent = packet; mark = Some at } ∷ ps) (mark_packets number at history packets)
      | false ↦ ap (λ ps. stored_after history packet ∷ ps) (mark_packets number at history packets)
    ]

pub mark_after : (number at : ℕ) (state : StoreState) (history : List Sending) → IsStoreAfter state history
    → IsStoreAfter (record { size = state.size; packets = with_mark number at state.packets }) (Again number at ∷ history)
mark_after number at state history after = record { packets = ap (with_mark number at) after.packets ∙ mark_packets number at history (stored_packets state.size history) }
