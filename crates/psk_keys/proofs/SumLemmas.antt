-- The exclusive or of two lists of one length, octet by octet.
use Rattle.std.proofs.Common.{◌≡◌, ℕ, ◌<◌, List, length, get_or, bit_xor, sym, ◌∙◌, arith}
use Rattle.std.proofs.lemmas.Simd.{length-zip2, get_or-zip2}
use Rattle.std.proofs.lemmas.Grind.{same_number_lists}
use Rattle.std.specs.Simd.Lanes.{zip2}

pub zip2_from_octets : (xs ys zs : List ℕ) → length ys ≡ length xs → length zs ≡ length xs
    → ((k : ℕ) → k < length xs → get_or zs k 0 ≡ bit_xor (get_or xs k 0) (get_or ys k 0)) → zs ≡ zip2 bit_xor xs ys
zip2_from_octets xs ys zs same long each =
    same_number_lists zs (zip2 bit_xor xs ys) (long ∙ sym (length-zip2 bit_xor xs ys (sym same)))
    (λ k low. each k (omega arith) ∙ sym (get_or-zip2 bit_xor xs ys k 0 0 0 (omega arith) (omega arith)))
