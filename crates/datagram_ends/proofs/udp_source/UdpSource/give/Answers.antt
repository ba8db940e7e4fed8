-- What was given is held no more.
use Rattle.datagram_ends.proofs.HeldLemmas.{held_rest}
use Rattle.datagram_ends.proofs.udp_source.UdpSource.give.Goals as goal

pub returns-clause-left : goal.returns-clause-left
returns-clause-left g c = held_rest c.args.self.now.block c.args.self.now.from c.args.self.now.to c.copy_front-count.result
