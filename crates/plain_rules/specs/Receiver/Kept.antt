-- What a plain program keeps, as packets.
use Rattle.std.specs.Prelude.{List, [], ◌∷◌, map}
use Rattle.plain_rules.specs.declared.receiver.kept.Kept.{Kept as KeptOne}
use Rattle.receiver_rules.specs.Packets.{Packet}
use Rattle.receiver_rules.specs.Epochs.{Epoch}
use Rattle.receiver_rules.specs.History.{packets_over}
use Rattle.receiver_rules.specs.Seen.{packet_at}

-- a packet that a program keeps, with its place
abbrev pub kept_packet : KeptOne → Packet
kept_packet kept = packet_at kept.place kept.payload.now

-- the packets that a program keeps, in their order
abbrev pub kept_packets : List KeptOne → List Packet
kept_packets kept = map kept_packet kept

-- the kept packets of all epochs before the newest one, in the order of their release
abbrev pub packets_before : List Epoch → List Packet
packets_before [] = []
packets_before (current ∷ earlier) = packets_over earlier
