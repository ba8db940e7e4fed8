-- A text that is enciphered twice is itself.
use Rattle.std.proofs.Common.{◌≡◌, ℕ, List, [], ◌∷◌, length, bit_xor, Option, Some, None, unwrap_or, refl, sym, ap, ◌∙◌, arith}
use Rattle.std.specs.Int.Bits.{xor_assoc, xor_self, xor_zero_r}
use Rattle.std.specs.Simd.Lanes.{zip2}
use Rattle.std.proofs.lemmas.List.FromFn.{length-map-range_with_len}
use Rattle.aes_ctr.specs.Ctr.{ctr, keystream, keystream_octet}
use Rattle.std.proofs.lemmas.Simd.{length-zip2}
use Rattle.rist_wire.specs.Cipher.{first_counter_block, key_by, ciphered, ciphered_under, ciphered_by}

sum-twice : (octet key : ℕ) → bit_xor (bit_xor octet key) key ≡ octet
sum-twice octet key = xor_assoc octet key key ∙ ap (bit_xor octet) (xor_self key) ∙ xor_zero_r octet

sums-twice : (text stream : List ℕ) → length stream ≡ length text → zip2 bit_xor (zip2 bit_xor text stream) stream ≡ text
sums-twice [] stream same = refl
sums-twice (x ∷ text) [] same = absurd (omega arith)
sums-twice (x ∷ text) (k ∷ stream) same = λ i. sum-twice x k i ∷ sums-twice text stream (omega arith) i

ctr-twice : (key first text : List ℕ) → ctr key first (ctr key first text) ≡ text
ctr-twice key first text =
    let stream = keystream key first (length text) in
    let long : length stream ≡ length text = length-map-range_with_len (keystream_octet key first) 0 (length text) in
    let same : length (zip2 bit_xor text stream) ≡ length text = length-zip2 bit_xor text stream (sym long) in
    ap (λ n. zip2 bit_xor (zip2 bit_xor text stream) (keystream key first n)) same ∙ sums-twice text stream long

ciphered-twice : (key : List ℕ) (sequence : ℕ) (text : List ℕ) → ciphered key sequence (ciphered key sequence text) ≡ text
unfolding ciphered
ciphered-twice key sequence text = ctr-twice key (first_counter_block sequence) text

ciphered_under-twice : (key : Option (List ℕ)) (sequence : Option ℕ) (text : List ℕ)
    → ciphered_under key sequence (ciphered_under key sequence text) ≡ text
ciphered_under-twice None sequence text = refl
ciphered_under-twice (Some key) sequence text = ciphered-twice key (unwrap_or sequence 0) text

pub ciphered_by-twice : (pass : Option (List ℕ)) (bits : ℕ) (key sequence : Option ℕ) (text : List ℕ)
    → ciphered_by pass bits key sequence (ciphered_by pass bits key sequence text) ≡ text
ciphered_by-twice pass bits key sequence text = ciphered_under-twice (key_by pass bits key) sequence text
