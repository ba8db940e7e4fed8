-- So many lie above the value that was come to, and they are few enough.
use Rattle.std.proofs.Common.{◌≡◌, ◌≤◌, ◌-◌, ℕ, List}
use Rattle.value_histogram.specs.Ranks.{IsHistogramOf, capped, count_above}
use Rattle.value_histogram.proofs.histogram.Histogram.rank.Given as goal

abbrev pub invariant-loop-step : goal.invariant-loop-step
invariant-loop-step l = record {
  few : l.above ≤ l.most;
  sums : (values : List ℕ) → IsHistogramOf l.self values → l.above ≡ capped (count_above (16383 - l.step) values);
}
