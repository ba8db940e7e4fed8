-- How often values came, and which of them few others lie above. Values of 16,383 and more count as one.
use Rattle.std.specs.Prelude.{◌≡◌, ℕ, zero, suc, ◌+◌, ◌-◌, ◌/◌, ◌^◌, ◌<◌, min, List, [], ◌∷◌, length, slice_index}
use Rattle.std.specs.Prelude.{nat_lt, nat_le, ◌==◌, if◌then◌else◌, set}
use Rattle.value_histogram.specs.declared.spread.Spread.{Spread}

-- a value as it is told
abbrev pub told_value : ℕ → ℕ
told_value value = min value 16383

-- a count stays at its greatest value
abbrev pub capped : ℕ → ℕ
capped n = min n (2 ^ 64 - 1)

-- how many of some values are this one
abbrev pub count_at : ℕ → List ℕ → ℕ
count_at value [] = 0
count_at value (x ∷ xs) = (if x == value then 1 else 0) + count_at value xs

-- how many lie above it
abbrev pub count_above : ℕ → List ℕ → ℕ
count_above value [] = 0
count_above value (x ∷ xs) = (if nat_lt value x then 1 else 0) + count_above value xs

-- the first value from this one on, among so many further ones, that no more than so many of these lie above
unfoldable pub least_from : ℕ → ℕ → ℕ → List ℕ → ℕ
least_from zero value most values = value
least_from (suc more) value most values =
    if nat_le (count_above value values) most then value else least_from more (value + 1) most values

-- the least value that no more than so many of these lie above
unfoldable pub rank_of : ℕ → List ℕ → ℕ
rank_of most values = least_from 16383 0 most values

-- how values are spread: how many they are, the least, the median, the least that no more than one in a hundred lies
-- above, and the greatest; where there are none each is 0
abbrev pub spread_of : List ℕ → Spread
spread_of values =
    record {
      count = capped (length values);
      least = rank_of (capped (length values) - 1) values;
      median = rank_of (capped (length values) / 2) values;
      high = rank_of (capped (length values) / 100) values;
      greatest = rank_of 0 values;
    }

-- ---- what a contract sees of a histogram

-- how often each value came, and how many came
pub record HistogramState : Type 0 where
  pub counts : List ℕ
  pub total : ℕ

-- a histogram has these values, none of which lies above the last one
pub record IsHistogramOf (h : HistogramState) (values : List ℕ) : Type 0 where
  pub total : h.total ≡ capped (length values)
  pub room : length h.counts ≡ 16384
  pub counts : (value : ℕ) → value < 16384 → slice_index h.counts value ≡ capped (count_at value values)
  pub within : count_above 16383 values ≡ 0

-- one more of a value
abbrev pub raised : List ℕ → ℕ → List ℕ
raised counts at = set counts at (capped (slice_index counts at + 1))
