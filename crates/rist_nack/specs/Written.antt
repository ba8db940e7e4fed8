-- Requests as they are written.
use Rattle.std.specs.Prelude.{ℕ, ◌++◌, List, [], ◌∷◌}
use Rattle.std.specs.List.{flat_map}
use Rattle.std.specs.Int.{w16, to_be_bytes}

-- a word: two halves
abbrev pub word_spelling : ℕ × ℕ → List ℕ
word_spelling w = to_be_bytes w16 w.0 ++ to_be_bytes w16 w.1

-- words one after another
abbrev pub words_spelling : List (ℕ × ℕ) → List ℕ
words_spelling words = flat_map word_spelling words

-- the body of a sequence extension: the upper half, and 16 bits that are reserved
abbrev pub upper_spelling : ℕ → List ℕ
upper_spelling upper = to_be_bytes w16 upper ++ 0 ∷ 0 ∷ []
