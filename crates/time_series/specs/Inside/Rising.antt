-- What private contracts of peaks cite.
use Rattle.std.specs.Prelude.{◌≡◌, ℕ, ◌*◌, ◌^◌, ◌<◌, max, List, length, slice_index, slice_set}
use Rattle.time_series.specs.Points.{Mark, latest}
use Rattle.time_series.specs.Peaks.{greatest_in}

-- points are the greatest of these amounts, where each bucket is 2^scale seconds wide, and there is one for each amount
pub record ArePeaks (scale : ℕ) (marks : List Mark) (points : List ℕ) : Type 0 where
  pub within : latest marks < 4096 * 2 ^ scale
  pub room : length points ≡ 4096
  pub peaks : (i : ℕ) → i < 4096 → slice_index points i ≡ greatest_in scale i marks

-- a bucket's greatest amount with one more
abbrev pub lifted : List ℕ → ℕ → ℕ → List ℕ
lifted points i amount = slice_set points i (max (slice_index points i) amount)
