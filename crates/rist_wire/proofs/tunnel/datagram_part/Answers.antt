use Rattle.rist_wire.proofs.PartLemmas.{part-message}
use Rattle.rist_wire.proofs.tunnel.datagram_part.Goals as goal

pub returns-in-Ok-clause-message : goal.returns-in-Ok-clause-message
returns-in-Ok-clause-message c = part-message c.args.port c.args.from c.args.octets.now c.in-Ok.kind c.in-Ok.ensures.value
