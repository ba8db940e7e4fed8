-- The pairs so far are joined, and what stands behind them is as it was.
use Rattle.std.proofs.Common.{◌≡◌, ◌≤◌, ◌<◌, ◌+◌, ◌*◌, ℕ, max, length}
use Rattle.std.specs.Prelude.{slice_index}
use Rattle.time_series.proofs.peaks.join_peaks.Given as goal

abbrev pub invariant-loop-i : goal.invariant-loop-i
invariant-loop-i l = record {
  room : length l.points ≡ length l.initial.points;
  done : (k : ℕ) → k < l.i → slice_index l.points k ≡ max (slice_index l.initial.points (2 * k)) (slice_index l.initial.points (2 * k + 1));
  rest : (k : ℕ) → l.i ≤ k → slice_index l.points k ≡ slice_index l.initial.points k;
}
