use Rattle.std.proofs.Common.{◌≡◌, ◌++◌, length}
use Rattle.rist_nack.specs.State.{asks_left}
use Rattle.rist_nack.proofs.asking.AsksIterator.next.Given as goal

abbrev pub invariant-loop-ask : goal.invariant-loop-ask
invariant-loop-ask l = l.self-inside.words ++ asks_left l.self-inside.requests ≡ l.initial.self-inside.words ++ asks_left l.initial.self-inside.requests

abbrev pub decreases-loop-ask : goal.decreases-loop-ask
decreases-loop-ask l = length l.self-inside.requests.packets
