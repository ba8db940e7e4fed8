-- The greatest amounts over time, in the same buckets as sums.
use Rattle.std.specs.Prelude.{◌≡◌, ℕ, ◌+◌, ◌*◌, ◌/◌, ◌^◌, ◌<◌, max, List, [], ◌∷◌, map, ◌==◌, if◌then◌else◌}
use Rattle.std.specs.Prelude.{slice_index, length}
use Rattle.std.specs.List.{range_with_len}
use Rattle.time_series.specs.Points.{Mark, SeriesState, halvings, latest, width_of}

-- the greatest amount that came in bucket i, where each is 2^scale seconds wide, and 0 where none came
abbrev pub greatest_in : ℕ → ℕ → List Mark → ℕ
greatest_in scale i [] = 0
greatest_in scale i (mark ∷ marks) =
    max (if mark.second / 2 ^ scale == i then mark.amount else 0) (greatest_in scale i marks)

-- the greatest amount of each bucket, from that of second 0 to that of the latest second
abbrev pub peaks_of : List Mark → List ℕ
peaks_of marks =
    map (λ i. greatest_in (halvings (latest marks)) i marks) (range_with_len 0 (latest marks / width_of marks + 1))

-- peaks have these amounts, the newest first, and there is a point for each
pub record IsPeaksOf (s : SeriesState) (marks : List Mark) : Type 0 where
  pub newest : s.latest ≡ latest marks
  pub doubled : s.scale ≡ halvings (latest marks)
  pub room : length s.points ≡ 4096
  pub within : s.latest < 4096 * 2 ^ s.scale
  pub peaks : (i : ℕ) → i < 4096 → slice_index s.points i ≡ greatest_in s.scale i marks
