-- The least ticks of groups of eight places, and of groups of these, in levels one behind another in one list.
use Rattle.std.specs.Prelude.{◌≡◌, ℕ, zero, suc, ◌+◌, ◌/◌, ◌<◌, ◌≤◌, List, length, slice_index}

-- how many groups a level has room for above so many entries
abbrev pub group_count : ℕ → ℕ
group_count len = len / 8 + 1

-- of a level of so many entries from a place on, no entry is below that of its group, which stands in the level behind
pub record IsCover (at len : ℕ) (xs : List ℕ) : Type 0 where
  pub least : (k : ℕ) → k < len → slice_index xs (at + len + k / 8) ≤ slice_index xs (at + k)

-- so many levels stand above a level of so many entries
unfoldable pub AreLevels : ℕ → ℕ → ℕ → List ℕ → Type 0
AreLevels zero at len xs = at + len ≤ length xs
AreLevels (suc n) at len xs = IsCover at len xs × AreLevels n (at + len) (group_count len) xs

-- no entry between two is at most the tick
abbrev pub IsNoneIn : List ℕ → ℕ → ℕ → ℕ → ℕ → Type 0
IsNoneIn xs at from end tick = (k : ℕ) → from ≤ k → k < end → tick < slice_index xs (at + k)

-- the first entry from a start on that is at most the tick
pub record IsFirstIn (xs : List ℕ) (at start end tick entry : ℕ) : Type 0 where
  pub low : start ≤ entry
  pub below : entry < end
  pub due : slice_index xs (at + entry) ≤ tick
  pub first : IsNoneIn xs at start entry tick

-- it is at most each entry between two
abbrev pub IsLeastIn : List ℕ → ℕ → ℕ → ℕ → ℕ → Type 0
IsLeastIn xs at from end least = (k : ℕ) → from ≤ k → k < end → least ≤ slice_index xs (at + k)

-- it is at most each other entry of the group of one entry
abbrev pub IsLeastBut : List ℕ → ℕ → ℕ → ℕ → ℕ → Type 0
IsLeastBut xs at len entry least =
    (k : ℕ) → k < len → k / 8 ≡ entry / 8 → (k ≡ entry → ⊥) → least ≤ slice_index xs (at + k)
