-- no call has told a fault, and none is to be told
use Rattle.std.proofs.Common.{◌≡◌, false}
use Rattle.datagram_ends.proofs.udp_source.UdpSource.hold_next.Given as goal

abbrev pub invariant-loop : goal.invariant-loop
invariant-loop g l = record {
  faults : l.self.faults ≡ l.fn.self.faults;
  clear : l.self.has_failed ≡ false;
}
