-- There is a series for each link so far.
use Rattle.std.proofs.Common.{◌≡◌, ◌<◌, ℕ, []}
use Rattle.std.specs.Prelude.{slice_index_or, length}
use Rattle.time_series.specs.Points.{SeriesState, IsSeriesOf}
use Rattle.session_figures.proofs.table.new_links.Given as goal

abbrev pub invariant-loop : goal.invariant-loop
invariant-loop l = record {
  count : length l.links.items ≡ l.counter;
  each : (w : ℕ) (d : SeriesState) → w < l.counter → IsSeriesOf (slice_index_or l.links.items w d) [];
}
