-- The least ticks of groups of eight places, where one group stands apart: the near one.
use Rattle.std.specs.Prelude.{◌≡◌, ◌≢◌, ℕ, ◌/◌, ◌<◌, ◌≤◌, List, length, slice_index}
use Rattle.deadline_index.specs.Inside.Levels.{group_count}

-- no place of the near group is below its tick, none of another below that group's, and no group below the third tick
pub record IsNearAt (ticks groups : List ℕ) (near near_least far_least : ℕ) : Type 0 where
  pub count : length groups ≡ group_count (length ticks)
  pub there : near < length groups
  pub here : (k : ℕ) → k < length ticks → k / 8 ≡ near → near_least ≤ slice_index ticks k
  pub far : (k : ℕ) → k < length ticks → k / 8 ≢ near → slice_index groups (k / 8) ≤ slice_index ticks k
  pub all : (g : ℕ) → g < length groups → far_least ≤ slice_index groups g

-- from one group on none before this one has a place that is due by the tick, and it is one of the groups
pub record IsFirstGroup (ticks : List ℕ) (start tick group : ℕ) : Type 0 where
  pub low : start ≤ group
  pub below : group < group_count (length ticks)
  pub first : (k : ℕ) → k < length ticks → start ≤ k / 8 → k / 8 < group → tick < slice_index ticks k

-- from one group on none has a place that is due by the tick
abbrev pub IsNoGroup : List ℕ → ℕ → ℕ → Type 0
IsNoGroup ticks start tick = (k : ℕ) → k < length ticks → start ≤ k / 8 → tick < slice_index ticks k
