-- The round keys that are kept of a key, each a list of 16 octets.
use Rattle.std.specs.Prelude.{◌≡◌, ℕ, ◌≤◌, [], List, map, bit_xor, slice_index_or}
use Rattle.aes_block.specs.Cipher.{expanded_key, round_count, round_key}
use Rattle.aes_block.specs.Inside.Mix.{columns_of}
use Rattle.aes_block.specs.Inside.Tower.{untower}

-- a round key that is kept row by row over the field of 16 elements, with the constant of the S-box added
abbrev pub unprepared : List ℕ → List ℕ
unprepared key = map (λ y. bit_xor (untower y) 0x63) (columns_of key)

-- the round keys as the standard has them, and as the middle rounds take them
pub record AreRoundKeys (key : List ℕ) (plain prepared : List (List ℕ)) : Type 0 where
  pub plain_key : (r : ℕ) → r ≤ round_count key → slice_index_or plain r [] ≡ round_key (expanded_key key) r
  pub prepared_key : (r : ℕ) → r ≤ round_count key
      → unprepared (slice_index_or prepared r []) ≡ round_key (expanded_key key) r
