-- The cipher on a block under a key of 16 or 32 octets (FIPS 197, section 5.1).
use Rattle.std.specs.Prelude.{ℕ, zero, suc, ◌+◌, ◌-◌, ◌*◌, ◌/◌, List, [], ◌++◌, length, slice_index_or}
use Rattle.aes_block.specs.State.{sub_bytes, shift_rows, mix_columns, add_round_key}
use Rattle.aes_block.specs.Schedule.{schedule}
use Rattle.aes_block.specs.declared.key.Key.{Key}
use Rattle.aes_block.specs.declared.key.Key.TheVariants.{Short, Long}

-- how many rounds a key has: 10 for 16 octets, 14 for 32 (section 5)
abbrev pub round_count : List ℕ → ℕ
round_count key = length key / 4 + 6

-- a key's whole schedule: four words for each round, and four before the first (section 5.2)
abbrev pub expanded_key : List ℕ → List (List ℕ)
expanded_key key = schedule key (4 * (round_count key + 1) - length key / 4)

-- word i of a schedule
abbrev pub word_at : List (List ℕ) → ℕ → List ℕ
word_at w i = slice_index_or w i []

-- the octets of round key r of a schedule (section 5.1.4)
abbrev pub round_key : List (List ℕ) → ℕ → List ℕ
round_key w r = word_at w (4 * r) ++ word_at w (4 * r + 1) ++ word_at w (4 * r + 2) ++ word_at w (4 * r + 3)

-- the state after the first key and n rounds
unfoldable pub state_after : List (List ℕ) → ℕ → List ℕ → List ℕ
state_after w zero s = add_round_key s (round_key w 0)
state_after w (suc n) s =
    add_round_key (mix_columns (shift_rows (sub_bytes (state_after w n s)))) (round_key w (suc n))

-- the block that a schedule's last round, without MixColumns, makes of a state
abbrev pub last_state : List (List ℕ) → ℕ → List ℕ → List ℕ
last_state w n s = add_round_key (shift_rows (sub_bytes s)) (round_key w n)

-- Cipher(): a block enciphered under a key
unfoldable pub cipher : List ℕ → List ℕ → List ℕ
cipher key block =
    last_state (expanded_key key) (round_count key) (state_after (expanded_key key) (round_count key - 1) block)

-- the octets of a key
abbrev pub key_octets : Key → List ℕ
key_octets (Short k) = k
key_octets (Long k) = k
