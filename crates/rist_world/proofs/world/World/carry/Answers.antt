use Rattle.std.proofs.Common.{rules, ◌∙◌, ap, take}
use Rattle.std.specs.Prelude.{is_some}
use Rattle.rist_world.proofs.ReceiverLemmas.{carry_all}
use Rattle.rist_world.proofs.world.World.carry.Goals as goal

pub returns : goal.returns
returns c = record {
  value = carry_all _ c.step.new.self c.take-item.new.self c.carry.new.self c.args.link c.args.place c.args.us (record { channel = c.in-Some.channel; octets = take c.in-Some.length c.datagram_at.new.block }) c.take-item.result c.what_of-what.result c.is_some-media.result c.step.result
      c.self.view_is c.take-item.ensures.same (search rules) (search rules) (c.is_some-media.ensures ∙ ap is_some c.media_in.ensures.value) c.what_of-what.ensures.value c.in_ok-carry.ensures.counts c.in_ok-carry.ensures.came c.in_ok-carry.ensures.length c.step.ensures.value;
}
