-- A table of 16 octets that is read at an octet, as a permutation of lanes reads it.
use Rattle.std.specs.Prelude.{ℕ, List, Bool, ◌||◌, nat_lt, nat_le, if◌then◌else◌, slice_index}

-- an octet that a table is read at
abbrev pub is_index : ℕ → Bool
is_index i = nat_le 128 i || nat_lt i 16

-- the entry at an index, or 0 from 128 on
abbrev pub read : List ℕ → ℕ → ℕ
read table i = if nat_le 128 i then 0 else slice_index table i
