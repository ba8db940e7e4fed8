-- Each datagram fits.
use Rattle.std.specs.List.{All}
use Rattle.outside_net.specs.Scripts.{FitsDatagram}
use Rattle.test_live.proofs.fanning.link.Given as goal

abbrev pub invariant-loop-datagram : goal.invariant-loop-datagram
invariant-loop-datagram l = All FitsDatagram l.reads.items
