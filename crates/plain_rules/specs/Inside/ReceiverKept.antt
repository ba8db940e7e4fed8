-- Packets of which a test reads a part alone.
use Rattle.std.specs.Prelude.{ℕ, ℤ, pos, []}
use Rattle.receiver_rules.specs.Packets.{Packet}

-- a packet of which only the number is read
abbrev pub at_number : ℕ → Packet
at_number n = record { number = n; timestamp = 0; deadline = pos 0; payload = [] }

-- a packet of which only the number and the deadline are read
abbrev pub at_deadline : ℕ → ℤ → Packet
at_deadline n deadline = record { number = n; timestamp = 0; deadline = deadline; payload = [] }
