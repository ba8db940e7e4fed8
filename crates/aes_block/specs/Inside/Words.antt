-- Words of the key schedule as the code keeps them: the first octet is the highest.
use Rattle.std.specs.Prelude.{ℕ, List}
use Rattle.std.specs.Int.{w32, to_be_bytes}

-- the octets of a word
abbrev pub word_octets : ℕ → List ℕ
word_octets w = to_be_bytes w32 w
