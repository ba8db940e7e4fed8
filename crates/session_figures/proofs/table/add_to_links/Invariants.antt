-- The links so far have their octets, and each other is as it was.
use Rattle.std.proofs.Common.{◌≡◌, ◌<◌, ◌≤◌, ◌∷◌, ℕ, List, length}
use Rattle.std.specs.Prelude.{slice_index_or}
use Rattle.time_series.specs.Points.{Mark, SeriesState, IsSeriesOf}
use Rattle.session_figures.specs.Amounts.{on_link}
use Rattle.session_figures.proofs.table.add_to_links.Given as goal

abbrev pub invariant-loop-link : goal.invariant-loop-link
invariant-loop-link l = record {
  count : length l.links ≡ length l.initial.links;
  done : (w : ℕ) (d : SeriesState) (marks : List Mark) → w < l.link → IsSeriesOf (slice_index_or l.initial.links w d) marks
      → IsSeriesOf (slice_index_or l.links w d) (record { second = l.second; amount = on_link w l.from l.amount } ∷ marks);
  rest : (w : ℕ) (d : SeriesState) → l.link ≤ w → slice_index_or l.links w d ≡ slice_index_or l.initial.links w d;
}
