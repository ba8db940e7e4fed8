-- A middle round over the field of 16 elements, on states column by column.
use Rattle.std.specs.Prelude.{◌≡◌, ℕ, List, map, bit_xor}
use lib.Lanes.{zip2}
use Rattle.aes_block.specs.Cipher.{cipher, expanded_key, state_after}
use Rattle.aes_block.specs.Inside.Mix.{by_lanes, columns_of}
use Rattle.aes_block.specs.Inside.Tables.{read}
use Rattle.aes_block.specs.Inside.Tower.{untower, upper, lower}
use Rattle.aes_block.specs.declared.substitution.TheConstants.{ONCE_UPPER, ONCE_LOWER, TWICE_UPPER, TWICE_LOWER}

-- the S-box of an octet without its constant
unfoldable pub once : ℕ → ℕ
once y = bit_xor (read ONCE_UPPER (upper y)) (read ONCE_LOWER (lower y))

-- twice that
unfoldable pub twice : ℕ → ℕ
twice y = bit_xor (read TWICE_UPPER (upper y)) (read TWICE_LOWER (lower y))

-- the state after a round under a prepared key
abbrev pub lane_round : List ℕ → List ℕ → List ℕ
lane_round t key = zip2 bit_xor (by_lanes (map once t) (map twice t)) key

-- the state that a vector stands for
abbrev pub octets_of : List ℕ → List ℕ
octets_of v = map untower (columns_of v)

-- a block comes of a vector, whichever block's state after so many rounds it stands for
abbrev pub Comes : (key : List ℕ) → ℕ → List ℕ → List ℕ → Type 0
Comes key done state result =
    (block : List ℕ) → octets_of state ≡ state_after (expanded_key key) done block → result ≡ cipher key block
