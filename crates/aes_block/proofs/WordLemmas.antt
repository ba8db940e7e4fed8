-- The octets of the exclusive or of two words.
use Rattle.std.proofs.Common.{◌≡◌, ℕ, ◌/◌, ◌%◌, ◌^◌, bit_xor, [], ◌∷◌, ap, ◌∙◌}
use Rattle.std.proofs.lemmas.Nat.{xor_mod, xor_shr}
use Rattle.std.specs.Simd.Lanes.{zip2}
use Rattle.aes_block.specs.Inside.Words.{word_octets}

octet-bit_xor : (k a b : ℕ) → bit_xor a b / 2 ^ k % 2 ^ 8 ≡ bit_xor (a / 2 ^ k % 2 ^ 8) (b / 2 ^ k % 2 ^ 8)
octet-bit_xor k a b = ap (λ (n : ℕ). n % 2 ^ 8) (xor_shr a b k) ∙ xor_mod (a / 2 ^ k) (b / 2 ^ k) 8

pub word_octets-bit_xor : (a b : ℕ) → word_octets (bit_xor a b) ≡ zip2 bit_xor (word_octets a) (word_octets b)
word_octets-bit_xor a b =
    λ i. octet-bit_xor 24 a b i ∷ octet-bit_xor 16 a b i ∷ octet-bit_xor 8 a b i ∷ xor_mod a b 8 i ∷ []
