-- What a store keeps, as its clauses see it, and what that says of the sendings before it.
use Rattle.std.specs.Prelude.{◌≡◌, ℕ, ◌+◌, List, [], ◌∷◌, map, ◌==◌, slice_get, if◌then◌else◌, Option, None, Some}
use Rattle.std.specs.List.{find}
use Rattle.sender_rules.specs.Sendings.{Packet, Sending, last_sent_again}
use Rattle.sender_rules.specs.Stored.{stored_packets}
use Rattle.retransmit_store.specs.declared.store.Stored.{Stored}

-- how many packets a store has room for, and its packets, the newest first, each with the tick at which it was last
-- sent again
pub record StoreState : Type 0 where
  pub size : ℕ
  pub packets : List Stored

-- stored packets without the ticks at which they were sent again
abbrev pub packets_of : List Stored → List Packet
packets_of stored = map (λ p. p.sent) stored

-- the packets of a store, the newest first
abbrev pub packets_in : StoreState → List Packet
packets_in state = packets_of state.packets

-- a packet as it stands after a history
abbrev pub stored_after : List Sending → Packet → Stored
stored_after history packet = record { sent = packet; mark = last_sent_again history packet.number }

-- the store keeps what is stored after a history, and nothing else, each with the tick at which it was last sent again
pub record IsStoreAfter (state : StoreState) (history : List Sending) : Type 0 where
  pub packets : state.packets ≡ map (stored_after history) (stored_packets state.size history)

-- a number is one above that of the newest packet, where there is one
abbrev pub IsNext : List Stored → ℕ → Type 0
IsNext [] number = Unit {0}
IsNext (newest ∷ packets) number = number ≡ newest.sent.number + 1

-- the stored packet with a number
abbrev pub stored_with : List Stored → ℕ → Option Stored
stored_with packets number = find (λ p. p.sent.number == number) packets

-- the stored packet at a place, if there is one
abbrev pub stored_at : List Stored → Option ℕ → Option Stored
stored_at packets None = None
stored_at packets (Some place) = slice_get packets place

-- the mark of a stored packet, if there is one
abbrev pub mark_in : Option Stored → Option ℕ
mark_in None = None
mark_in (Some p) = p.mark

-- a packet with another mark
abbrev pub marked_with : ℕ → Stored → Stored
marked_with at p = record { sent = p.sent; mark = Some at }

-- stored packets, where the one with a number is marked
abbrev pub with_mark : ℕ → ℕ → List Stored → List Stored
with_mark number at packets = map (λ p. if number == p.sent.number then marked_with at p else p) packets
