-- Numbers in decimal digits. Each definition is a text with a part behind it.
use Rattle.std.specs.Prelude.{ℕ, ◌/◌, ◌%◌, List, [], ◌∷◌, ◌++◌, length, not, ◌&&◌, ◌==◌, if◌then◌else◌, codes, decimal}

-- a number
abbrev pub with_number : List ℕ → ℕ → List ℕ
with_number text number = text ++ decimal number

-- the comma behind a digit that so many others follow, where these are whole groups of three
abbrev pub comma_before : ℕ → List ℕ
comma_before following = if not (following == 0) && (following % 3 == 0) then codes "," else []

-- digits, with a comma between groups of three
abbrev pub with_digits : List ℕ → List ℕ → List ℕ
with_digits text [] = text
with_digits text (digit ∷ digits) = with_digits ((text ++ digit ∷ []) ++ comma_before (length digits)) digits

-- a number whose digits stand in groups of three
unfoldable pub with_grouped : List ℕ → ℕ → List ℕ
with_grouped text number = with_digits text (decimal number)

-- a number of tenths: whole ones, and one digit behind the point
abbrev pub with_tenths : List ℕ → ℕ → List ℕ
with_tenths text tenths = with_number (with_number text (tenths / 10) ++ codes ".") (tenths % 10)
