use Rattle.std.proofs.Common.{rules, arith}
use Rattle.rist_world.proofs.TallyLemmas.{pushed}
use Rattle.rist_world.proofs.tally.Came.add.Goals as goal

pub returns : goal.returns
returns c = record {
  value = pushed _ _ _ c.args.place c.match-push.result c.loop.invariant.same (omega (arith, c.loop.invariant.long, c.loop-test.false, c.loop.auto.counter, c.loop.auto.counter-end, c.if-place-len.false)) (search rules);
}
