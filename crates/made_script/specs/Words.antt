-- The words of a number (this profile): those of ChaCha (RFC 8439, section 2.3) with eight rounds in place of twenty
-- and a counter of 64 bits, under a key of 32 octets.
use Rattle.std.specs.Prelude.{ℕ, ◌^◌, ◌%◌, ◌==◌, List, [], ◌++◌, map, replicate, if◌then◌else◌}
use Rattle.std.specs.List.{range_with_len}
use Rattle.std.specs.Int.{w64, to_be_bytes}
use Rattle.rand_chacha.specs.ChaCha.{ChaCha, word_at, key_of}

-- the key: the number's eight octets, the highest first, and 24 octets of one value
abbrev pub seed_of : ℕ → ℕ → List ℕ
seed_of number filling = to_be_bytes w64 number ++ replicate 24 filling

-- the word at a place, from 0; the words come round after 2^68
abbrev pub word_of : ℕ → ℕ → ℕ → ℕ
word_of number filling place = word_at 4 (key_of (seed_of number filling)) 0 (place % 2 ^ 68)

-- the generator whose next word is that at a place
abbrev pub generator_at : ℕ → ℕ → ℕ → ChaCha
generator_at number filling place =
    record { key = key_of (seed_of number filling); stream = 0; word_pos = place % 2 ^ 68 }

-- so many words of a number from a place on, and how many calls failed
pub record DrawnState : Type 0 where
  pub number : ℕ
  pub filling : ℕ
  pub at : ℕ
  pub left : ℕ
  pub faults : ℕ

-- the words from a place on
abbrev pub words_from : ℕ → ℕ → ℕ → ℕ → List ℕ
words_from number filling at count = map (word_of number filling) (range_with_len at count)

-- those that are left; after a failed call there are none
abbrev pub words_left : DrawnState → List ℕ
words_left drawn = if drawn.faults == 0 then words_from drawn.number drawn.filling drawn.at drawn.left else []
