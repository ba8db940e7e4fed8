-- What changes in a text where blocks are added to it.
use Rattle.std.specs.Prelude.{◌≡◌, ℕ, ◌+◌, ◌/◌, ◌%◌, ◌<◌, ◌≤◌, List, [], slice_index, slice_index_or, bit_xor}

-- the front of blocks that stand end to end was added to so many octets from an offset on
abbrev pub IsAdded : List ℕ → List ℕ → List (List ℕ) → ℕ → ℕ → Type 0
IsAdded old new blocks offset count = (k : ℕ) → k < count
    → slice_index new (offset + k)
    ≡ bit_xor (slice_index old (offset + k)) (slice_index (slice_index_or blocks (k / 16) []) (k % 16))

-- the octets before an offset are as they were
abbrev pub StaysBefore : List ℕ → List ℕ → ℕ → Type 0
StaysBefore old new offset = (k : ℕ) → k < offset → slice_index new k ≡ slice_index old k

-- those from an offset on
abbrev pub StaysAfter : List ℕ → List ℕ → ℕ → Type 0
StaysAfter old new offset = (k : ℕ) → offset ≤ k → slice_index new k ≡ slice_index old k
