-- A request that is being made, number by number, from the lowest: what one more number makes of its words.
use Rattle.std.specs.Prelude.{ℕ, zero, suc, ◌+◌, ◌-◌, ◌^◌, ◌<◌, ◌≤◌, ◌≡◌, List, [], ◌∷◌, ◌++◌, length, Bool, true}
use Rattle.std.specs.Prelude.{false, nat_lt, ◌==◌, if◌then◌else◌, Option, None, Some}
use Rattle.request_rules.specs.declared.policy.NackKind.{NackKind}
use Rattle.request_rules.specs.declared.policy.NackKind.TheVariants.{Range, Mask}
use Rattle.request_rules.specs.declared.word.AskWord.{AskWord}
use Rattle.request_rules.specs.Words.{is_masked}

-- a word for a number alone
abbrev pub word_of : ℕ → AskWord
word_of x = record { first = x; second = 0 }

-- a word with one more number, where it can name it: the next of a range, or one at most sixteen after the first of a
-- mask
abbrev pub extended : NackKind → AskWord → ℕ → Option AskWord
extended Range word x =
    if x == word.first + word.second + 1 then Some (record { first = word.first; second = word.second + 1 }) else None
extended Mask word x =
    if is_masked word.first x then Some (record { first = word.first; second = word.second + 2 ^ (x - word.first - 1) })
    else None

-- a word of its own behind at most 64, where there is room for it
abbrev pub with_last : List AskWord → ℕ → List AskWord
with_last words x = if nat_lt (length words) 64 then words ++ word_of x ∷ [] else words

-- the last word with one more number, or that number in a word of its own behind it, where there is room for so many
-- more
abbrev pub last_with : ℕ → AskWord → ℕ → Option AskWord → List AskWord
last_with room word x (Some longer) = longer ∷ []
last_with zero word x None = word ∷ []
last_with (suc room) word x None = word ∷ word_of x ∷ []

-- at most so many words, and one more number that is higher than all of theirs
abbrev pub with_number : NackKind → ℕ → List AskWord → ℕ → List AskWord
with_number kind zero words x = words
with_number kind (suc most) [] x = word_of x ∷ []
with_number kind (suc most) (word ∷ []) x = last_with most word x (extended kind word x)
with_number kind (suc most) (word ∷ next ∷ words) x = word ∷ with_number kind most (next ∷ words) x

-- there was room for that number
abbrev pub last_takes : ℕ → Option AskWord → Bool
last_takes room (Some longer) = true
last_takes zero None = false
last_takes (suc room) None = true

-- there is room for one more number among at most so many words
abbrev pub takes : NackKind → ℕ → List AskWord → ℕ → Bool
takes kind zero words x = false
takes kind (suc most) [] x = true
takes kind (suc most) (word ∷ []) x = last_takes most (extended kind word x)
takes kind (suc most) (word ∷ next ∷ words) x = takes kind most (next ∷ words) x

-- a number above a word's, near enough to fit a word of a range, and the bits of a mask are those of lower numbers
pub record IsAbove (kind : NackKind) (word : AskWord) (x : ℕ) : Type 0 where
  pub first : word.first < x
  pub range : kind ≡ Range → word.first + word.second < x
  pub mask : kind ≡ Mask → word.second < 2 ^ (x - word.first - 1)
  pub near : x ≤ word.first + 65535

-- the last word, if there is one, is below a number
abbrev pub IsAboveLast : NackKind → List AskWord → ℕ → Type 0
IsAboveLast kind [] x = Unit {0}
IsAboveLast kind (word ∷ []) x = IsAbove kind word x
IsAboveLast kind (word ∷ next ∷ words) x = IsAboveLast kind (next ∷ words) x
