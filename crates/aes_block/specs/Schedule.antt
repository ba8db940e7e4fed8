-- The key schedule (FIPS 197, section 5.2). A word is the list of its four octets.
use Rattle.std.specs.Prelude.{ℕ, zero, suc, ◌+◌, ◌-◌, ◌/◌, ◌%◌, List, [], ◌∷◌, ◌++◌, length, map, take, drop}
use Rattle.std.specs.Prelude.{if◌then◌else◌, nat_lt, ◌==◌, ◌&&◌, slice_index_or, bit_xor}
use Rattle.std.specs.Simd.Lanes.{zip2}
use Rattle.aes_block.specs.Field.{times_x, sub_byte}

-- RotWord: the octets of a word, one place to the left
abbrev pub rot_word : List ℕ → List ℕ
rot_word w = drop 1 w ++ take 1 w

-- SubWord: the S-box at each octet of a word
abbrev pub sub_word : List ℕ → List ℕ
sub_word w = map sub_byte w

-- the element x ^ n
unfoldable pub power_of_x : ℕ → ℕ
power_of_x zero = 1
power_of_x (suc n) = times_x (power_of_x n)

-- Rcon[j], for j from 1
abbrev pub round_constant : ℕ → List ℕ
round_constant j = power_of_x (j - 1) ∷ 0 ∷ 0 ∷ 0 ∷ []

-- what is added to the word `key_words` places before to make word i: the word before it, which
-- is transformed at each multiple of the key's length, and in a key of more than six words also in
-- the middle between two
abbrev pub step_word : ℕ → ℕ → List ℕ → List ℕ
step_word key_words i before =
    if i % key_words == 0 then zip2 bit_xor (sub_word (rot_word before)) (round_constant (i / key_words))
    else if nat_lt 6 key_words && i % key_words == 4 then sub_word before
    else before

-- word i of a schedule, from the words before it
abbrev pub next_word : ℕ → ℕ → List (List ℕ) → List ℕ
next_word key_words i w =
    zip2 bit_xor (slice_index_or w (i - key_words) []) (step_word key_words i (slice_index_or w (i - 1) []))

-- the words of a list of octets
abbrev pub words_of : List ℕ → List (List ℕ)
words_of (a ∷ b ∷ c ∷ d ∷ s) = (a ∷ b ∷ c ∷ d ∷ []) ∷ words_of s
words_of _ = []

-- the words of a key, and the n words of its schedule that follow
unfoldable pub schedule : List ℕ → ℕ → List (List ℕ)
schedule key zero = words_of key
schedule key (suc n) =
    schedule key n ++ next_word (length key / 4) (length key / 4 + n) (schedule key n) ∷ []
