-- An octet as two elements of the field of 2 ^ 4, and where the tables of a result are read for its inverse (Hamburg,
-- "Accelerating AES with Vector Permute Instructions", 2009).
use Rattle.std.specs.Prelude.{ℕ, ◌/◌, ◌%◌, List, [], ◌∷◌, slice_index, bit_and, bit_xor}
use Rattle.aes_block.specs.Inside.Tables.{read}
use Rattle.aes_block.specs.declared.tower.TheConstants.{TOWER_LOW, TOWER_HIGH}
use Rattle.aes_block.specs.declared.substitution.TheConstants.{INVERSES, QUOTIENTS}

-- an octet over the field of 16 elements
unfoldable pub tower : ℕ → ℕ
tower x = bit_xor (read TOWER_LOW (bit_and x 15)) (read TOWER_HIGH (x / 16))

-- what the low half of a tower stands for
abbrev pub back_low : List ℕ
back_low = 0 ∷ 96 ∷ 182 ∷ 214 ∷ 41 ∷ 73 ∷ 159 ∷ 255 ∷ 8 ∷ 104 ∷ 190 ∷ 222 ∷ 33 ∷ 65 ∷ 151 ∷ 247 ∷ []

-- what its high half stands for
abbrev pub back_high : List ℕ
back_high = 0 ∷ 236 ∷ 188 ∷ 80 ∷ 81 ∷ 189 ∷ 237 ∷ 1 ∷ 224 ∷ 12 ∷ 92 ∷ 176 ∷ 177 ∷ 93 ∷ 13 ∷ 225 ∷ []

-- the octet that stands so over the field of 16 elements
unfoldable pub untower : ℕ → ℕ
untower y = bit_xor (slice_index back_low (y % 16)) (slice_index back_high (y / 16))

-- the higher of the two elements
abbrev pub high_half : ℕ → ℕ
high_half y = y / 16

-- the lower
abbrev pub low_half : ℕ → ℕ
low_half y = bit_and y 15

-- their sum
abbrev pub both_halves : ℕ → ℕ
both_halves y = bit_xor (high_half y) (low_half y)

-- a fixed element over the low half
abbrev pub quotient : ℕ → ℕ
quotient y = read QUOTIENTS (low_half y)

-- the inverse of the high half, plus the quotient
abbrev pub by_high : ℕ → ℕ
by_high y = bit_xor (read INVERSES (high_half y)) (quotient y)

-- the inverse of the sum of both, plus the quotient
abbrev pub by_both : ℕ → ℕ
by_both y = bit_xor (read INVERSES (both_halves y)) (quotient y)

-- where the first table of a result is read
unfoldable pub upper : ℕ → ℕ
upper y = bit_xor (read INVERSES (by_high y)) (both_halves y)

-- where the second is read
unfoldable pub lower : ℕ → ℕ
lower y = bit_xor (read INVERSES (by_both y)) (high_half y)
