use Rattle.std.proofs.Common.{rules, take}
use Rattle.rist_world.proofs.SenderLemmas.{back_goes}
use Rattle.rist_world.proofs.world.World.carry_back.Goals as goal

pub returns : goal.returns
returns c = record {
  value = back_goes _ c.feed.new.self c.take.new.self c.args.link c.args.place c.args.us (record { channel = c.in-Some.channel; octets = take c.in-Some.length c.datagram_at.new.block }) c.in-Ok-Control.compound c.feed.result
      c.self.view_is c.take.ensures.same (search rules) (search rules) c.feed.ensures.value;
}
