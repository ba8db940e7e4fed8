-- the payloads that are out, of the packets so far
use Rattle.std.proofs.Common.{◌≡◌, ◌++◌, map, take}
use Rattle.std.specs.List.{filter}
use Rattle.receiver_rules.specs.Packets.{Packet, is_played_out}
use Rattle.receiver_rules.specs.Seen.{moment_of}
use Rattle.plain_rules.specs.Receiver.Told.{payload_of}
use Rattle.plain_rules.specs.Receiver.Kept.{kept_packets}
use Rattle.plain_rules.proofs.receiver.kept.add_payloads_out.Given as goal

abbrev pub invariant-loop-k : goal.invariant-loop-k
invariant-loop-k l = map payload_of l.payloads.items ≡ map payload_of l.initial.payloads.items ++ map (λ (p : Packet). p.payload) (filter (is_played_out (kept_packets l.kept) (moment_of l.until)) (kept_packets (take l.k-index l.ordered)))
