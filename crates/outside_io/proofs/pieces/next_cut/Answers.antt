use Rattle.std.proofs.Common.{arith}
use Rattle.outside_io.proofs.Given.{next_cut_more}
use Rattle.outside_io.proofs.pieces.next_cut.Goals as goal

pub loop-i-preserved : goal.loop-i-preserved
loop-i-preserved c = record {
  counted = omega arith;
  next = next_cut_more c.args.cuts.now c.loop-i.i c.args.at c.args.end _ _ c.loop-i-test.true c.loop-i.invariant.next c.earlier_cut-next.ensures.value;
}
