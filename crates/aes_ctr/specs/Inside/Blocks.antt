-- The output blocks of a group.
use Rattle.std.specs.Prelude.{◌≡◌, ℕ, ◌+◌, ◌%◌, ◌^◌, ◌<◌, List, [], slice_index_or}
use Rattle.std.specs.Int.{w128, to_be_bytes}
use Rattle.aes_block.specs.Cipher.{cipher}

-- four blocks are those that the counter and the next three numbers are enciphered to
abbrev pub AreFrom : List ℕ → ℕ → List (List ℕ) → Type 0
AreFrom key counter blocks = (j : ℕ) → j < 4 → slice_index_or blocks j []
    ≡ cipher key (to_be_bytes w128 ((counter + j) % 2 ^ 128))
