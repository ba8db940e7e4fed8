-- HMAC (RFC 2104, section 2) over SHA-256, whose blocks have 64 octets.
use Rattle.std.specs.Prelude.{ℕ, ◌-◌, List, ◌++◌, length, map, replicate, if◌then◌else◌, nat_lt, bit_xor}
use Rattle.sha2.specs.Sha256.{sha256}

-- octets filled up with zeros to a block
abbrev pub filled_block : List ℕ → List ℕ
filled_block octets = octets ++ replicate (64 - length octets) 0

-- the key as a block: one that is longer than a block is hashed first
abbrev pub block_key : List ℕ → List ℕ
block_key key = filled_block (if nat_lt 64 (length key) then sha256 key else key)

-- a block with an octet added to each of its own
abbrev pub padded_key : ℕ → List ℕ → List ℕ
padded_key pad block = map (λ octet. bit_xor octet pad) block

-- the octet of the inner pad
abbrev pub inner_pad : ℕ
inner_pad = 0x36

-- the octet of the outer pad
abbrev pub outer_pad : ℕ
outer_pad = 0x5c

-- the code of a text under a key
unfoldable pub hmac : List ℕ → List ℕ → List ℕ
hmac key text =
    sha256 (padded_key outer_pad (block_key key) ++ sha256 (padded_key inner_pad (block_key key) ++ text))
