-- The value is the first that few lie above: many lie above the one before it.
use Rattle.std.proofs.Common.{◌-◌, ◌+◌, arith}
use Rattle.value_histogram.specs.Ranks.{HistogramState}
use Rattle.value_histogram.proofs.RankLemmas.{count_read, rank_found, rank_none, sum_lower}
use Rattle.value_histogram.proofs.histogram.Histogram.rank.Goals as goal

pub returns-then-above-most : goal.returns-then-above-most
returns-then-above-most c = record {
  value = λ values is.
      let inside : HistogramState = record { counts = c.self.inside.counts.items; total = c.self.inside.total } in
      let sum = count_read c.args.self.now inside (16383 - c.loop-step.step) c.index.result.now c.loop-step.above c.saturating_add-above.result c.self.view_is c.self.invariant (omega arith) c.index.ensures c.saturating_add-above.ensures in
      let now = sum_lower c.args.self.now values (16383 - c.loop-step.step) (16383 - (c.loop-step.step + 1)) c.loop-step.above c.saturating_add-above.result is (omega arith) (omega arith) (c.loop-step.invariant.sums values is) sum in
      rank_found (16383 - c.loop-step.step) (16383 - (c.loop-step.step + 1)) c.args.most c.loop-step.above values (omega arith) (omega arith) c.requires.within c.loop-step.invariant.few (c.loop-step.invariant.sums values is)
      c.saturating_add-above.result c.if-above-most.true now;
}

pub loop-step-preserved : goal.loop-step-preserved
loop-step-preserved c = record {
  few = omega arith;
  sums = λ values is.
      let inside : HistogramState = record { counts = c.self.inside.counts.items; total = c.self.inside.total } in
      let sum = count_read c.args.self.now inside (16383 - c.loop-step.step) c.index.result.now c.loop-step.above c.saturating_add-above.result c.self.view_is c.self.invariant (omega arith) c.index.ensures c.saturating_add-above.ensures in
      sum_lower c.args.self.now values (16383 - c.loop-step.step) (16383 - (c.loop-step.step + 1)) c.loop-step.above c.saturating_add-above.result is (omega arith) (omega arith) (c.loop-step.invariant.sums values is) sum;
}

pub returns : goal.returns
returns c = record {
  value = λ values is. rank_none (16383 - c.loop-step.step) c.args.most c.loop-step.above values (omega arith) c.requires.within c.loop-step.invariant.few (c.loop-step.invariant.sums values is);
}
