-- Which packets are stored for retransmission, and which of them a request finds (this profile).
use Rattle.std.specs.Prelude.{ℕ, ◌%◌, List, take, ◌==◌, Option, None, Some}
use Rattle.std.specs.List.{find}
use Rattle.seq_unwrap.specs.declared.width.Width.{Width}
use Rattle.seq_unwrap.specs.Nearest.{cycle_of}
use Rattle.sender_rules.specs.Sendings.{Packet, Sending, sent_packets, last_sent_again}

-- the packets that are stored: the last ones that were sent, so many at most
abbrev pub stored_packets : ℕ → List Sending → List Packet
stored_packets size history = take size (sent_packets history)

-- the packet with a number, if it is among these
abbrev pub packet_with : List Packet → ℕ → Option Packet
packet_with packets number = find (λ packet. packet.number == number) packets

-- the packet that a word asks for: the one whose number ends in it
abbrev pub packet_for : List Packet → Width → ℕ → Option Packet
packet_for packets width word = find (λ packet. packet.number % cycle_of width == word) packets

-- the tick at which a stored packet was last sent again
abbrev pub stored_mark : List Sending → Option Packet → Option ℕ
stored_mark history None = None
stored_mark history (Some packet) = last_sent_again history packet.number
