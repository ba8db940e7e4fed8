use Rattle.std.proofs.Common.{rules, ◌+◌}
use Rattle.rist_world.specs.Script.{carries, carries_on}
use Rattle.rist_world.proofs.ScriptLemmas.{put_more, way_more}
use Rattle.rist_world.proofs.made.push_way.Goals as goal

pub loop-link-preserved : goal.loop-link-preserved
loop-link-preserved c =
    let draws = c.args.draws.now in
    let link = c.loop-link.link in
    put_more c.args.moves.now.items c.loop-link.moves.items c.push_link.new.moves.items (carries c.args.way link draws.slot draws.dues) (carries c.args.way (link + 1) draws.slot draws.dues)
    (carries_on c.args.way link draws.slot draws.dues) c.loop-link.invariant (search rules) (way_more c.args.way link draws.slot draws.dues)
