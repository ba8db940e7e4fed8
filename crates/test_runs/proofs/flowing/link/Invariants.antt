-- Each datagram fits.
use Rattle.std.specs.List.{All}
use Rattle.outside_net.specs.Scripts.{FitsDatagram}
use Rattle.test_runs.proofs.flowing.link.Given as goal

abbrev pub invariant-loop-letter : goal.invariant-loop-letter
invariant-loop-letter l = All FitsDatagram l.reads.items
