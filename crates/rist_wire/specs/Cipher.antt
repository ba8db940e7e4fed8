-- How datagrams of a session with a passphrase are enciphered (this profile): AES (FIPS 197) in counter mode
-- (NIST SP 800-38A, section 6.5) under a key that PBKDF2 (RFC 8018, section 5.2) derives.
use Rattle.std.specs.Prelude.{ℕ, List, ◌++◌, replicate, Option, Some, None, unwrap_or}
use Rattle.std.specs.Int.{w32, to_be_bytes}
use Rattle.psk_keys.specs.Keys.{KeysState, key_of}
use Rattle.aes_ctr.specs.Ctr.{ctr}

-- a passphrase, and the bits of its keys
pub record Secret : Type 0 where
  pub pass : List ℕ
  pub bits : ℕ

-- a session's, where it has a passphrase
abbrev pub secret_with : Option (List ℕ) → ℕ → Option Secret
secret_with None bits = None
secret_with (Some pass) bits = Some (record { pass = pass; bits = bits })

-- the secret that keys are kept of
abbrev pub secret_of : Option KeysState → Option Secret
secret_of None = None
secret_of (Some keys) = Some (record { pass = keys.phrase; bits = keys.bits })

-- the key behind a header, where there is a secret and a key field stands in the header: the field is the nonce
abbrev pub key_under : Option Secret → Option ℕ → Option (List ℕ)
key_under None field = None
key_under (Some secret) None = None
key_under (Some secret) (Some nonce) = Some (key_of secret.pass secret.bits (to_be_bytes w32 nonce))

-- the same by a passphrase and the bits of its keys
abbrev pub key_by : Option (List ℕ) → ℕ → Option ℕ → Option (List ℕ)
key_by pass bits key = key_under (secret_with pass bits) key

-- the first counter block of a datagram: its sequence number's four octets, and twelve zeros
abbrev pub first_counter_block : ℕ → List ℕ
first_counter_block sequence = to_be_bytes w32 sequence ++ replicate 12 0

-- a text under a key, from the block of a sequence number: enciphered, and deciphered again
unfoldable pub ciphered : List ℕ → ℕ → List ℕ → List ℕ
ciphered key sequence text = ctr key (first_counter_block sequence) text

-- a text behind a header with this sequence number; without a key it stays as it is
abbrev pub ciphered_under : Option (List ℕ) → Option ℕ → List ℕ → List ℕ
ciphered_under None sequence text = text
ciphered_under (Some key) sequence text = ciphered key (unwrap_or sequence 0) text

-- the same by a passphrase and the bits of its keys
abbrev pub ciphered_by : Option (List ℕ) → ℕ → Option ℕ → Option ℕ → List ℕ → List ℕ
ciphered_by pass bits nonce sequence text = ciphered_under (key_by pass bits nonce) sequence text
