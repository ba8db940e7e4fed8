use Rattle.rist_world.proofs.ReceiverLemmas.{put_back_is}
use Rattle.rist_world.proofs.world.put_back.Goals as goal

pub returns-clause-value : goal.returns-clause-value
returns-clause-value c =
    put_back_is c.args.wires.now c.from-link.result c.args.link c.index-wires-link.result c.put_all.new.wire _ c.put_all.result c.if-link-wires.false c.from-link.ensures c.put_all.ensures.value
