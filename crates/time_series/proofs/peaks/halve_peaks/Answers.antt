-- The pairs are joined, and nothing stands behind them.
use Rattle.std.proofs.Common.{rules}
use Rattle.time_series.proofs.PeakLemmas.{peaks_joined}
use Rattle.time_series.proofs.peaks.halve_peaks.Goals as goal

pub returns : goal.returns
returns c = record {
  peaks = λ scale marks are. peaks_joined scale marks c.args.points.now c.join_peaks.new.points c.clear_rest.new.points (search rules) c.join_peaks.ensures.peaks c.clear_rest.ensures.first c.clear_rest.ensures.second are;
}
