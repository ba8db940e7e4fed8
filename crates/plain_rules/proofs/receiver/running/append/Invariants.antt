-- the packets so far stand behind the others
use Rattle.std.proofs.Common.{◌≡◌, ◌++◌, take}
use Rattle.plain_rules.specs.Receiver.Kept.{kept_packets}
use Rattle.plain_rules.proofs.receiver.running.append.Given as goal

abbrev pub invariant-loop-packet : goal.invariant-loop-packet
invariant-loop-packet l = kept_packets l.over.items ≡ kept_packets l.initial.over.items ++ kept_packets (take l.packet-index l.packets)
