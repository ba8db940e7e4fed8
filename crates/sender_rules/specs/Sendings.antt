-- What a sender did with its media packets (RFC 3550, section 5.1, for what a packet carries; VSF TR-06-1 for
-- retransmissions). A history is a list of it, the newest first: in `sending ∷ before`, `before` is all that came
-- before.
use Rattle.std.specs.Prelude.{◌≡◌, ℕ, ◌+◌, List, [], ◌∷◌, map, ◌==◌, if◌then◌else◌, Option, None, Some}
use Rattle.ts_nulls.specs.Shape.{Shape}

-- a packet as it was sent: its number, its timestamp, which null packets were deleted from its payload, and the payload
-- without them
pub record Packet : Type 0 where
  pub number : ℕ
  pub timestamp : ℕ
  pub strip : Option Shape
  pub payload : List ℕ

-- a packet was sent for the first time, or the packet with this number was sent again, at this tick
pub data Sending : Type 0 where
  First : Packet → Sending
  Again : ℕ → ℕ → Sending

-- the packets that were sent, the newest first
abbrev pub sent_packets : List Sending → List Packet
sent_packets [] = []
sent_packets (First packet ∷ before) = packet ∷ sent_packets before
sent_packets (Again number at ∷ before) = sent_packets before

-- the tick at which the packet with a number was last sent again
abbrev pub last_sent_again : List Sending → ℕ → Option ℕ
last_sent_again [] number = None
last_sent_again (First packet ∷ before) number = if packet.number == number then None else last_sent_again before number
last_sent_again (Again other at ∷ before) number = if other == number then Some at else last_sent_again before number

-- numbers fall one by one: each is one above the next
abbrev pub AreFalling : List ℕ → Type 0
AreFalling [] = Unit {0}
AreFalling (number ∷ []) = Unit {0}
AreFalling (number ∷ next ∷ numbers) = (number ≡ next + 1) × AreFalling (next ∷ numbers)

-- packets, the newest first, were sent under numbers that follow one another
abbrev pub AreNumbered : List Packet → Type 0
AreNumbered packets = AreFalling (map (λ packet. packet.number) packets)
