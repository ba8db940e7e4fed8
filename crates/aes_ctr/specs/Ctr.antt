-- Counter mode (NIST SP 800-38A, section 6.5), with the standard incrementing function on all 128
-- bits of the counter block (appendix B.1).
use Rattle.std.specs.Prelude.{ℕ, ◌+◌, ◌/◌, ◌%◌, ◌^◌, List, length, map, slice_index, bit_xor}
use Rattle.std.specs.Int.{w128, from_be_bytes, to_be_bytes}
use Rattle.std.specs.List.{range_with_len}
use Rattle.std.specs.Simd.Lanes.{zip2}
use Rattle.aes_block.specs.Cipher.{cipher}

-- the counter block j places after the first
abbrev pub counter_block : List ℕ → ℕ → List ℕ
counter_block first j = to_be_bytes w128 ((from_be_bytes w128 first + j) % 2 ^ 128)

-- octet i of the keystream: the output blocks, which are the enciphered counter blocks, stand end to
-- end
unfoldable pub keystream_octet : List ℕ → List ℕ → ℕ → ℕ
keystream_octet key first i = slice_index (cipher key (counter_block first (i / 16))) (i % 16)

-- the first n octets of the keystream
abbrev pub keystream : List ℕ → List ℕ → ℕ → List ℕ
keystream key first n = map (keystream_octet key first) (range_with_len 0 n)

-- a text under a key from a first counter block: its sum with as much of the keystream
abbrev pub ctr : List ℕ → List ℕ → List ℕ → List ℕ
ctr key first text = zip2 bit_xor text (keystream key first (length text))
