-- What private contracts of a series cite.
use Rattle.std.specs.Prelude.{◌≡◌, ℕ, ◌+◌, ◌*◌, ◌^◌, ◌<◌, ◌≤◌, List, length, slice_index, slice_set}
use Rattle.time_series.specs.Points.{Mark, capped, latest, amount_in, halvings}

-- points are the sums of these amounts, where each bucket is 2^scale seconds wide, and there is one for each amount
pub record AreSums (scale : ℕ) (marks : List Mark) (points : List ℕ) : Type 0 where
  pub within : latest marks < 4096 * 2 ^ scale
  pub room : length points ≡ 4096
  pub sums : (i : ℕ) → i < 4096 → slice_index points i ≡ capped (amount_in scale i marks)

-- a bucket's sum with one more amount
abbrev pub raised : List ℕ → ℕ → ℕ → List ℕ
raised points i amount = slice_set points i (capped (slice_index points i + amount))

-- there is a point for the latest second
pub record IsRoomy (points : List ℕ) (scale latest : ℕ) : Type 0 where
  pub room : length points ≡ 4096
  pub doubled : scale ≡ halvings latest
  pub small : scale ≤ 52
  pub within : latest < 4096 * 2 ^ scale
