-- so many whole parts were sent, and what is left lies behind them
use Rattle.std.proofs.Common.{◌≡◌, ℕ, length}
use Rattle.datagram_ends.specs.Ends.{SendsFirst, behind}
use Rattle.datagram_ends.proofs.datagram_sink.DatagramSink.send_parts.Given as goal

abbrev pub invariant-loop-rest : goal.invariant-loop-rest
invariant-loop-rest g l = record {
  faults : l.self.faults ≡ l.fn.self.faults;
  sent : (count : ℕ) × SendsFirst g.C.Clock.moments count l.fn.self l.self l.fn.piece × (l.rest ≡ behind count l.fn.piece);
}

abbrev pub decreases-loop-rest : goal.decreases-loop-rest
decreases-loop-rest g l = length l.rest
