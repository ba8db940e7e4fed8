-- The state of the cipher and its transformations (FIPS 197, section 5.1). A state is the list of
-- its 16 octets column by column: that of row r and column c is at place r + 4 * c (section 3.4).
use Rattle.std.specs.Prelude.{ℕ, ◌+◌, ◌*◌, ◌/◌, ◌%◌, List, [], ◌∷◌, ◌++◌, map, slice_index, bit_xor}
use Rattle.std.specs.List.{range_with_len}
use Rattle.std.specs.Simd.Lanes.{zip2}
use Rattle.aes_block.specs.Field.{product, sub_byte}

-- SubBytes: the S-box at each octet (section 5.1.1)
abbrev pub sub_bytes : List ℕ → List ℕ
sub_bytes s = map sub_byte s

-- ShiftRows: row r moves r places to the left, around its end (section 5.1.2)
abbrev pub shift_rows : List ℕ → List ℕ
shift_rows s = map (λ i. slice_index s (i % 4 + 4 * ((i / 4 + i % 4) % 4))) (range_with_len 0 16)

-- the sum of four elements
abbrev pub sum_of_four : ℕ → ℕ → ℕ → ℕ → ℕ
sum_of_four a b c d = bit_xor (bit_xor (bit_xor a b) c) d

-- a column times the fixed matrix of MixColumns (section 5.1.3)
abbrev pub mix_column : ℕ → ℕ → ℕ → ℕ → List ℕ
mix_column a b c d =
    sum_of_four (product 2 a) (product 3 b) c d
    ∷ sum_of_four a (product 2 b) (product 3 c) d
    ∷ sum_of_four a b (product 2 c) (product 3 d)
    ∷ sum_of_four (product 3 a) b c (product 2 d) ∷ []

-- MixColumns: each column is mixed (section 5.1.3)
abbrev pub mix_columns : List ℕ → List ℕ
mix_columns (a ∷ b ∷ c ∷ d ∷ s) = mix_column a b c d ++ mix_columns s
mix_columns _ = []

-- AddRoundKey: the octet by octet sum with a round key (section 5.1.4)
abbrev pub add_round_key : List ℕ → List ℕ → List ℕ
add_round_key s k = zip2 bit_xor s k
