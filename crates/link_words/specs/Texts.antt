-- Parts of words, and readings that may fail.
use Rattle.std.specs.Prelude.{ℕ, List, length, nat_lt, ◌==◌, if◌then◌else◌, Option, Some, None, Result, Ok, Err}
use Rattle.std.specs.List.{before_first, after_first, position_or_len}

-- a word of a command line, as its octets
abbrev pub Word : Type 0
Word = List ℕ

-- the text before the first of a mark and the text behind it, where there is one
abbrev pub split_at : ℕ → Word → Option (Word × Word)
split_at mark text =
    if nat_lt (position_or_len (λ c. c == mark) text) (length text)
    then Some (before_first (λ c. c == mark) text, after_first (λ c. c == mark) text) else None

-- one reading after another: where one fails, all do
infixl 10 ◌>>=◌
abbrev pub ◌>>=◌ : {A B : Type 0} → Option A → (A → Option B) → Option B
None >>= f = None
(Some x) >>= f = f x

-- likewise of what tells why it fails
abbrev pub and_then : {A B E : Type 0} → Result A E → (A → Result B E) → Result B E
and_then (Ok x) f = f x
and_then (Err e) f = Err e
