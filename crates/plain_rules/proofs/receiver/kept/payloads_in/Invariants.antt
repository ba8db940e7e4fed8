-- the payloads of the packets so far
use Rattle.std.proofs.Common.{◌≡◌, map, take}
use Rattle.receiver_rules.specs.Packets.{Packet}
use Rattle.plain_rules.specs.Receiver.Told.{payload_of}
use Rattle.plain_rules.specs.Receiver.Kept.{kept_packets}
use Rattle.plain_rules.proofs.receiver.kept.payloads_in.Given as goal

abbrev pub invariant-loop-k : goal.invariant-loop-k
invariant-loop-k l = map payload_of l.payloads.items ≡ map (λ (p : Packet). p.payload) (kept_packets (take l.k-index l.packets))
