-- Which places are due by a tick.
use Rattle.std.specs.Prelude.{ℕ, ◌<◌, ◌≤◌, List, length, slice_index}

-- the first place from the start on that is due by the tick
pub record IsFirstBy (ticks : List ℕ) (start tick place : ℕ) : Type 0 where
  pub from : start ≤ place
  pub there : place < length ticks
  pub due : slice_index ticks place ≤ tick
  pub first : (before : ℕ) → start ≤ before → before < place → tick < slice_index ticks before

-- no place from the start on is due by the tick
abbrev pub IsNoneFrom : List ℕ → ℕ → ℕ → Type 0
IsNoneFrom ticks start tick = (place : ℕ) → start ≤ place → place < length ticks → tick < slice_index ticks place
