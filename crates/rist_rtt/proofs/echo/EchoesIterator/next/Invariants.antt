use Rattle.std.proofs.Common.{◌≡◌, length}
use Rattle.rist_rtt.specs.Echo.{echoes_in}
use Rattle.rist_rtt.proofs.echo.EchoesIterator.next.Given as goal

abbrev pub invariant-loop-packet : goal.invariant-loop-packet
invariant-loop-packet l = echoes_in l.self-inside.packets ≡ echoes_in l.initial.self-inside.packets

abbrev pub decreases-loop-packet : goal.decreases-loop-packet
decreases-loop-packet l = length l.self-inside.packets
