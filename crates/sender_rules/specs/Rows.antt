-- Worked runs. A run is written in the order in which it happened.
use Rattle.std.specs.Prelude.{ℕ, List, [], map, reverse, None}
use Rattle.std.specs.List.{range_with_len}
use Rattle.seq_unwrap.specs.declared.width.Width.TheVariants.{W16, W32}
use Rattle.sender_rules.specs.Sendings.{Packet, Sending, First}
use Rattle.sender_rules.specs.Retransmissions.{AskedNumber, packets_to_send_again}

-- a packet without a payload
abbrev pub packet : ℕ → Packet
packet number = record { number = number; timestamp = 0; strip = None; payload = [] }

-- so many packets are sent, from a number on
abbrev pub sends : ℕ → ℕ → List Sending
sends first count = map (λ number. First (packet number)) (range_with_len first count)

-- sequence numbers of 16 bits are asked for
abbrev pub short : List ℕ → List AskedNumber
short words = map (λ word. record { width = W16; word = word }) words

-- sequence numbers of 32 bits are asked for
abbrev pub long : List ℕ → List AskedNumber
long words = map (λ word. record { width = W32; word = word }) words

-- the numbers that are sent again at a tick after a run, where so many packets are stored and held for 20 ms
abbrev pub sent_again : ℕ → List Sending → ℕ → List AskedNumber → List ℕ
sent_again size run tick asked = map (λ p. p.number) (packets_to_send_again size 1800 (reverse run) tick asked)
