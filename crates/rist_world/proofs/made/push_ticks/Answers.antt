use Rattle.std.proofs.Common.{◌+◌}
use Rattle.rist_world.specs.Script.{ticks}
use Rattle.rist_world.proofs.ScriptLemmas.{put_more, tick_more}
use Rattle.rist_world.proofs.made.push_ticks.Goals as goal

pub loop-link-preserved : goal.loop-link-preserved
loop-link-preserved c =
    put_more c.args.moves.now.items c.loop-link.moves.items c.push.new.moves.items (ticks c.loop-link.link c.args.slot) (ticks (c.loop-link.link + 1) c.args.slot) _ c.loop-link.invariant c.in_ok-push.ensures.items
    (tick_more c.loop-link.link c.args.slot c.micros_of.result c.micros_of.ensures.value)
