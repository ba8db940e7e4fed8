-- Nothing stands in the second half so far.
use Rattle.std.proofs.Common.{◌≡◌, ◌<◌, ◌≤◌, ℕ, length}
use Rattle.std.specs.Prelude.{slice_index}
use Rattle.time_series.proofs.widening.clear_rest.Given as goal

abbrev pub invariant-loop-i : goal.invariant-loop-i
invariant-loop-i l = record {
  room : length l.points ≡ length l.initial.points;
  first : (k : ℕ) → k < 2048 → slice_index l.points k ≡ slice_index l.initial.points k;
  second : (k : ℕ) → 2048 ≤ k → k < l.i → slice_index l.points k ≡ 0;
}
