-- Parts of a text, which is its octets, and the numbers in them (this profile).
use Rattle.std.specs.Prelude.{ℕ, List, length, take, drop, nat_lt, ◌&&◌, ◌==◌, Bool, not, if◌then◌else◌}
use Rattle.std.specs.Prelude.{Option, Some, None}
use Rattle.std.specs.Char.{is_ascii_digit}
use Rattle.std.specs.List.{list_all, before_first, after_first, position_or_len}
use Rattle.std.specs.Str.{bytes_eq}
use Rattle.std.specs.Str.Parse.{digits_value}

-- a text
abbrev pub Text : Type 0
Text = List ℕ

-- one reading after another: where one fails, all do
infixl 10 ◌>>=◌
abbrev pub ◌>>=◌ : {A B : Type 0} → Option A → (A → Option B) → Option B
None >>= f = None
(Some x) >>= f = f x

-- what stands behind this front, where the text begins with it
abbrev pub behind : Text → Text → Option Text
behind front text =
    if bytes_eq (take (length front) text) front then Some (drop (length front) text) else None

-- the text before the first of a mark and the text behind it, where there is one
abbrev pub split_at : ℕ → Text → Option (Text × Text)
split_at mark text =
    if nat_lt (position_or_len (λ c. c == mark) text) (length text)
    then Some (before_first (λ c. c == mark) text, after_first (λ c. c == mark) text) else None

-- a text before its first mark, and what stands behind that, where it has one
abbrev pub parts_by : Text → Option (Text × Text) → Text × Option Text
parts_by text None = (text, None)
parts_by text (Some parts) = (parts.0, Some parts.1)

-- likewise
abbrev pub first_part : ℕ → Text → Text × Option Text
first_part mark text = parts_by text (split_at mark text)

-- a number is 1 to 20 decimal digits, leading zeros among them, with no sign
abbrev pub is_numeral : Text → Bool
is_numeral text = nat_lt 0 (length text) && (nat_lt (length text) 21 && list_all is_ascii_digit text)

-- a number lies between two
abbrev pub is_between : ℕ → ℕ → ℕ → Bool
is_between least most n = not (nat_lt n least) && not (nat_lt most n)

-- the number that a text is, if it lies between these
abbrev pub number_in : ℕ → ℕ → Text → Option ℕ
number_in least most text =
    if is_numeral text && is_between least most (digits_value 10 text) then Some (digits_value 10 text) else None
