-- The pairs are joined, and nothing stands behind them.
use Rattle.std.proofs.Common.{rules}
use Rattle.time_series.proofs.SeriesLemmas.{joined}
use Rattle.time_series.proofs.widening.halve.Goals as goal

pub returns : goal.returns
returns c = record {
  sums = λ scale marks are. joined scale marks c.args.points.now c.join_pairs.new.points c.clear_rest.new.points (search rules) c.join_pairs.ensures.sums c.clear_rest.ensures.first c.clear_rest.ensures.second are;
}
