-- The first line of a text, and the passphrase in it. A text is its octets.
use Rattle.std.specs.Prelude.{◌-◌, ◌==◌, ℕ, Bool, List, get_or, length, take, if◌then◌else◌}
use Rattle.std.specs.List.{after_first, before_first}

-- a line feed
abbrev pub is_line_end : ℕ → Bool
is_line_end octet = octet == 10

-- what stands before the first line feed
abbrev pub line_of : List ℕ → List ℕ
line_of text = before_first is_line_end text

-- what stands behind it
abbrev pub behind_line : List ℕ → List ℕ
behind_line text = after_first is_line_end text

-- a line ends in a carriage return
abbrev pub ends_in_return : List ℕ → Bool
ends_in_return line = get_or line (length line - 1) 0 == 13

-- a line without the carriage return that ends it, if one does
abbrev pub without_return : List ℕ → List ℕ
without_return line = if ends_in_return line then take (length line - 1) line else line
