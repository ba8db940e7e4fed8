-- Enciphered datagrams of the tunnel (this profile): AES (FIPS 197) in counter mode (NIST SP 800-38A, section 6.5)
-- behind a GRE header with a key and a sequence number (RFC 2890, section 2).
use Rattle.std.specs.Prelude.{◌≡◌, ℕ, List, drop, Option, Some, Ok}
use Rattle.std.specs.Int.{w32, to_be_bytes}
use Rattle.gre_tunnel.specs.declared.gre.Gre.{Gre}
use Rattle.gre_tunnel.specs.Reading.{reading_of as gre_reading_of}
use Rattle.psk_keys.specs.Keys.{key_of}
use Rattle.psk_seal.specs.declared.sealer.Pair.{Pair}
use Rattle.rist_wire.specs.Cipher.{first_counter_block}
use Rattle.aes_ctr.specs.Ctr.{ctr}

-- a header with a key and a sequence number has 12 octets (RFC 2890, section 2)
abbrev pub sealed_header_len : ℕ
sealed_header_len = 12

-- the header of a datagram under a pair: the key field is its nonce, the sequence field its sequence number
abbrev pub sealed_header : Pair → ℕ → Gre
sealed_header given protocol = record {
  key = Some given.nonce;
  sequence = Some given.sequence;
  protocol = protocol;
  rest = sealed_header_len;
}

-- A pair was given. The key field of the header is its nonce, and the sequence field its sequence number. Behind the
-- header stands the text, enciphered under the key of the passphrase and this nonce, from the counter block of this
-- sequence number.
pub record IsSealed (pass : List ℕ) (bits : ℕ) (pair : Option Pair) (protocol : ℕ)
    (text datagram : List ℕ) : Type 0 where
  pub given : Pair
  pub is_given : pair ≡ Some given
  pub header : gre_reading_of datagram ≡ Ok (sealed_header given protocol)
  pub behind : drop sealed_header_len datagram
      ≡ ctr (key_of pass bits (to_be_bytes w32 given.nonce)) (first_counter_block given.sequence) text
