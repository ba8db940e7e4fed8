-- ShiftRows and MixColumns as the lanes add: from a state and the state with each octet doubled. A vector has a state
-- row by row.
use Rattle.std.specs.Prelude.{ℕ, List, [], ◌∷◌, ◌++◌, bit_xor}
use lib.Lanes.{zip2, pick_l}

-- at which lane each octet of a state stands, and at which place of a state each lane's octet
abbrev pub across : List ℕ
across = 0 ∷ 4 ∷ 8 ∷ 12 ∷ 1 ∷ 5 ∷ 9 ∷ 13 ∷ 2 ∷ 6 ∷ 10 ∷ 14 ∷ 3 ∷ 7 ∷ 11 ∷ 15 ∷ []

-- which octet comes to each place from row 0 of its column, once ShiftRows has moved it, and from each row below
abbrev pub from_row_0 : List ℕ
from_row_0 = 0 ∷ 5 ∷ 10 ∷ 15 ∷ 4 ∷ 9 ∷ 14 ∷ 3 ∷ 8 ∷ 13 ∷ 2 ∷ 7 ∷ 12 ∷ 1 ∷ 6 ∷ 11 ∷ []

-- the next row's
abbrev pub from_row_1 : List ℕ
from_row_1 = 5 ∷ 10 ∷ 15 ∷ 0 ∷ 9 ∷ 14 ∷ 3 ∷ 4 ∷ 13 ∷ 2 ∷ 7 ∷ 8 ∷ 1 ∷ 6 ∷ 11 ∷ 12 ∷ []

-- that two rows on
abbrev pub from_row_2 : List ℕ
from_row_2 = 10 ∷ 15 ∷ 0 ∷ 5 ∷ 14 ∷ 3 ∷ 4 ∷ 9 ∷ 2 ∷ 7 ∷ 8 ∷ 13 ∷ 6 ∷ 11 ∷ 12 ∷ 1 ∷ []

-- that three rows on
abbrev pub from_row_3 : List ℕ
from_row_3 = 15 ∷ 0 ∷ 5 ∷ 10 ∷ 3 ∷ 4 ∷ 9 ∷ 14 ∷ 7 ∷ 8 ∷ 13 ∷ 2 ∷ 11 ∷ 12 ∷ 1 ∷ 6 ∷ []

-- the octets of a state that stand so
abbrev pub picked : List ℕ → List ℕ → List ℕ
picked s places = pick_l 0 (s ++ s) places

-- the lanes of a vector, column by column
abbrev pub columns_of : List ℕ → List ℕ
columns_of v = picked v across

-- each octet three times, as the sum of once and twice
abbrev pub thrice : List ℕ → List ℕ → List ℕ
thrice once twice = zip2 bit_xor once twice

-- the sum of the four rows: twice the row's own octet, three times the next one, and the two after it
abbrev pub by_lanes : List ℕ → List ℕ → List ℕ
by_lanes once twice =
    zip2 bit_xor (zip2 bit_xor (zip2 bit_xor (picked twice from_row_0) (picked (thrice once twice) from_row_1))
    (picked once from_row_2)) (picked once from_row_3)
