use Rattle.std.proofs.Common.{rules, subst}
use Rattle.rist_world.specs.Mover.{GivesNext}
use Rattle.rist_world.proofs.RunLemmas.{none_run, one_more}
use Rattle.rist_world.proofs.running.run.Goals as goal

pub loop-made-init : goal.loop-made-init
loop-made-init g c = none_run _ _ _ _ c.new-moves.ensures.items c.requires.none

pub loop-made-preserved : goal.loop-made-preserved
loop-made-preserved g c =
    let gives = subst (λ o. GivesNext (g.M.Mover.script c.loop-made.mover) (g.M.Mover.given c.loop-made.mover) (g.M.Mover.script c.next.new.self) (g.M.Mover.given c.next.new.self) c.loop-made.world o) c.in-Some.is c.in_ok-next.ensures.next in
    one_more c.args.world.now c.loop-made.world c.make.new.self (g.M.Mover.script c.args.mover.now) (g.M.Mover.given c.args.mover.now) (g.M.Mover.script c.loop-made.mover) (g.M.Mover.given c.loop-made.mover) (g.M.Mover.script c.next.new.self) (g.M.Mover.given c.next.new.self) c.loop-made.moves.items c.push.new.self.items c.loop-made.made c.in-Some.next (search rules) c.loop-made.invariant gives c.in_ok-make.ensures.value
