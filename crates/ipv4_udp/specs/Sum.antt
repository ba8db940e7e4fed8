-- The checksum of IPv4 and UDP (RFC 1071, section 1): the one's complement sum of words of 16 bits.
use Rattle.std.specs.Prelude.{ℕ, ◌+◌, ◌-◌, ◌*◌, ◌/◌, ◌%◌, ◌^◌, Bool, List, [], ◌∷◌, ◌==◌}

-- the words of octets, the higher octet first; an odd last octet is padded with a zero octet
unfoldable pub words_of : List ℕ → List ℕ
words_of [] = []
words_of (last ∷ []) = 256 * last ∷ []
words_of (high ∷ low ∷ rest) = (256 * high + low) ∷ words_of rest

-- the sum of two words, whose carry out of the 16 bits is added in again at the low end (end-around carry)
abbrev pub add_words : ℕ → ℕ → ℕ
add_words a b = (a + b) % 2 ^ 16 + (a + b) / 2 ^ 16

-- the one's complement sum of words
unfoldable pub ones_sum : List ℕ → ℕ
ones_sum [] = 0
ones_sum (word ∷ words) = add_words word (ones_sum words)

-- the sum of octets that hold their checksum: all sixteen bits are set
abbrev pub whole_sum : ℕ
whole_sum = 65535

-- octets that hold their checksum
abbrev pub is_summed : List ℕ → Bool
is_summed octets = ones_sum (words_of octets) == whole_sum

-- the checksum of octets whose checksum field is 0: the one's complement of their sum
abbrev pub checksum_of : List ℕ → ℕ
checksum_of octets = whole_sum - ones_sum (words_of octets)
