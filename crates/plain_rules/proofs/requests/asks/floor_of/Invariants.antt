-- the floor so far, and that of the rest
use Rattle.std.proofs.Common.{◌≡◌, ◌≤◌, ◌^◌, max, drop}
use Rattle.receiver_rules.specs.Packets.{playout_floor}
use Rattle.receiver_rules.specs.Seen.{moment_of}
use Rattle.plain_rules.specs.Receiver.Kept.{kept_packets}
use Rattle.plain_rules.proofs.requests.asks.floor_of.Given as goal

abbrev pub invariant-loop-k : goal.invariant-loop-k
invariant-loop-k l = (max l.floor (playout_floor (kept_packets (drop l.k-index l.kept)) (moment_of l.until)) ≡ playout_floor (kept_packets l.kept) (moment_of l.until)) × (l.floor ≤ 2 ^ 62)
