-- The first two rounds of blocks that differ in their last octet alone. That octet comes to one column in the first
-- round, and each octet of this column to one column of its own in the second (FIPS 197, sections 5.1.2 and 5.1.3).
use Rattle.std.specs.Prelude.{◌≡◌, ℕ, ◌+◌, ◌<◌, List, [], ◌∷◌, ◌++◌, length, take, slice_index, bit_xor}
use lib.Lanes.{zip2}
use Rattle.aes_block.specs.Cipher.{expanded_key, state_after}
use Rattle.aes_block.specs.Inside.Rounds.{octets_of, once, twice}
use Rattle.aes_block.specs.Inside.Tower.{tower}

-- the first column after the first round: what the other octets come to, and the last one's share
abbrev pub first_column : (w x y z a b c d : ℕ) → List ℕ
first_column w x y z a b c d =
    bit_xor (bit_xor a (once w)) 0
    ∷ bit_xor (bit_xor b (once x)) 0
    ∷ bit_xor (bit_xor c (once y)) (twice y)
    ∷ bit_xor (bit_xor d 0) (twice z) ∷ []

-- a state row by row, with the share of the first column's four octets, which were put through the S-box
abbrev pub share_once : ℕ → ℕ → ℕ → ℕ → List ℕ
share_once a b c d =
    0 ∷ d ∷ c ∷ b
    ∷ a ∷ d ∷ c ∷ 0
    ∷ a ∷ d ∷ 0 ∷ b
    ∷ a ∷ 0 ∷ c ∷ b ∷ []

-- the share of their doubles
abbrev pub share_twice : ℕ → ℕ → ℕ → ℕ → List ℕ
share_twice a b c d =
    a ∷ 0 ∷ 0 ∷ b
    ∷ 0 ∷ 0 ∷ c ∷ b
    ∷ 0 ∷ d ∷ c ∷ 0
    ∷ a ∷ d ∷ 0 ∷ 0 ∷ []

-- what four octets of the first column make of the rest
abbrev pub spread_column : List ℕ → List ℕ → List ℕ
spread_column second (a ∷ b ∷ c ∷ d ∷ _) =
    zip2 bit_xor (zip2 bit_xor second (share_once (once a) (once b) (once c) (once d)))
    (share_twice (twice a) (twice b) (twice c) (twice d))
spread_column second _ = second

-- what the last octet is before the first round, at a lane
abbrev pub last_begun : List ℕ → ℕ → ℕ → ℕ
last_begun start last lane = tower (bit_xor last (slice_index start lane))

-- the state row by row after two rounds of a block with this last octet, which stands at the four lanes from `lane` on
abbrev pub after_two : List ℕ → List ℕ → List ℕ → ℕ → ℕ → List ℕ
after_two start first second lane last =
    spread_column second (first_column
    (last_begun start last lane) (last_begun start last (lane + 1))
    (last_begun start last (lane + 2)) (last_begun start last (lane + 3))
    (slice_index first lane) (slice_index first (lane + 1)) (slice_index first (lane + 2)) (slice_index first (lane + 3)))

-- what is kept of a row leads to the state after two rounds, whatever the last octet is
abbrev pub Leads : (key block start first second : List ℕ) → ℕ → Type 0
Leads key block start first second lane = (last : ℕ) → last < 256
    → octets_of (after_two start first second lane last)
    ≡ state_after (expanded_key key) 2 (take 15 block ++ last ∷ [])

-- at each of four places
pub record IsPrefix (key block start first second : List ℕ) : Type 0 where
  pub start_long : length start ≡ 16
  pub first_long : length first ≡ 16
  pub at_0 : Leads key block start first second 0
  pub at_4 : Leads key block start first second 4
  pub at_8 : Leads key block start first second 8
  pub at_12 : Leads key block start first second 12
