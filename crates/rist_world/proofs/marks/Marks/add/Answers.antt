use Rattle.std.proofs.Common.{rules}
use Rattle.rist_world.proofs.MarkLemmas.{none_since, one_marked}
use Rattle.rist_world.proofs.marks.Marks.add.Goals as goal

pub loop-place-init : goal.loop-place-init
loop-place-init c = record { marks = search (rules, none_since); same = search rules }

pub loop-place-preserved : goal.loop-place-preserved
loop-place-preserved c = record {
  marks = one_marked c.args.opener.now c.args.self.now c.loop-place.self-inside.places.items c.push.new.self.items c.args.wire.now.put c.loop-place.place (search rules) (search rules) c.loop-place.invariant.marks (search rules);
  same = search rules;
}
