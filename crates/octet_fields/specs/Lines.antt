-- A count as text.
use Rattle.std.specs.Prelude.{ℕ, List, ◌++◌, codes, decimal}

-- a name, a blank, a count in decimal digits and a line feed
abbrev pub line : List ℕ → ℕ → List ℕ
line name count = ((name ++ codes " ") ++ decimal count) ++ codes "\n"
