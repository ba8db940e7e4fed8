-- Amounts over time. Time is cut into buckets of equal width, from second 0 on: of one second, or where there would be
-- more than 4,096 of them, of the least power of two of seconds that makes them no more.
use Rattle.std.specs.Prelude.{◌≡◌, ℕ, zero, suc, ◌+◌, ◌-◌, ◌*◌, ◌/◌, ◌^◌, ◌<◌, max, min, List, [], ◌∷◌, map}
use Rattle.std.specs.Prelude.{nat_lt, ◌==◌, if◌then◌else◌, slice_index, length, take}
use Rattle.std.specs.List.{range_with_len}

-- an amount, and the second in which it came
pub record Mark : Type 0 where
  pub second : ℕ
  pub amount : ℕ

-- a sum stays at its greatest value
abbrev pub capped : ℕ → ℕ
capped n = min n (2 ^ 64 - 1)

-- the latest second, and 0 where no amount came
abbrev pub latest : List Mark → ℕ
latest [] = 0
latest (mark ∷ marks) = max mark.second (latest marks)

-- how often a number is halved until it is below 4,096, but no more than so often
unfoldable pub halvings_within : ℕ → ℕ → ℕ
halvings_within zero n = 0
halvings_within (suc more) n = if nat_lt n 4096 then 0 else suc (halvings_within more (n / 2))

-- how often the width has doubled by a second: so often that it lies in one of the first 4,096 buckets. A second is
-- below 2^64, and so no more than 52 times
unfoldable pub halvings : ℕ → ℕ
halvings second = halvings_within 52 second

-- how many seconds wide a bucket is
abbrev pub width_of : List Mark → ℕ
width_of marks = 2 ^ halvings (latest marks)

-- the amounts that came in bucket i, where each is 2^scale seconds wide
abbrev pub amount_in : ℕ → ℕ → List Mark → ℕ
amount_in scale i [] = 0
amount_in scale i (mark ∷ marks) =
    (if mark.second / 2 ^ scale == i then mark.amount else 0) + amount_in scale i marks

-- the sum of each bucket, from that of second 0 to that of the latest second
abbrev pub points_of : List Mark → List ℕ
points_of marks =
    map (λ i. capped (amount_in (halvings (latest marks)) i marks))
    (range_with_len 0 (latest marks / width_of marks + 1))

-- ---- what a contract sees of a series

-- the sums of all buckets, how often their width has doubled, and the latest second
pub record SeriesState : Type 0 where
  pub points : List ℕ
  pub scale : ℕ
  pub latest : ℕ

-- a series has these amounts, the newest first, and there is a point for each
pub record IsSeriesOf (s : SeriesState) (marks : List Mark) : Type 0 where
  pub newest : s.latest ≡ latest marks
  pub doubled : s.scale ≡ halvings (latest marks)
  pub room : length s.points ≡ 4096
  pub within : s.latest < 4096 * 2 ^ s.scale
  pub sums : (i : ℕ) → i < 4096 → slice_index s.points i ≡ capped (amount_in s.scale i marks)

-- the sums that it shows, from that of second 0 to that of its latest second
abbrev pub shown_points : SeriesState → List ℕ
shown_points s = take (s.latest / 2 ^ s.scale + 1) s.points
