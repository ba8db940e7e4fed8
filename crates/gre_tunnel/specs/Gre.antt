-- GRE headers in UDP (RFC 2784, section 2; RFC 2890, section 2; RFC 8086, section 3), and which octets
-- begin with one. No checksum stands in a header that is taken (this profile).
use Rattle.std.specs.Prelude.{◌≡◌, ◌⊎◌, ℕ, ◌+◌, ◌*◌, ◌^◌, ◌<◌, List, [], ◌++◌, Option, Some, None, is_some, IfSome}
use Rattle.std.specs.Prelude.{IsSome}
use Rattle.std.specs.Int.{w16, w32, to_be_bytes, from_bool}

-- the protocols of the tunnel: two of IEEE's local experimental EtherTypes (this profile), for a keepalive
abbrev pub keepalive_protocol : ℕ
keepalive_protocol = 0x88B5

-- and for a datagram with reduced overhead, behind its ports
abbrev pub datagram_protocol : ℕ
datagram_protocol = 0x88B6

-- and the EtherType of IPv4, for a full datagram
abbrev pub full_protocol : ℕ
full_protocol = 0x0800

-- one of the three
abbrev pub IsProtocol : ℕ → Type 0
IsProtocol protocol =
    (protocol ≡ keepalive_protocol) ⊎ ((protocol ≡ datagram_protocol) ⊎ (protocol ≡ full_protocol))

-- a header: the key and the sequence number, where they are there, and the protocol
pub record Header : Type 0 where
  pub key : Option ℕ
  pub sequence : Option ℕ
  pub protocol : ℕ

-- A key stands only with a sequence number, and the protocol is one of the three (this profile).
pub record IsHeader (header : Header) : Type 0 where
  pub key : IfSome header.key (λ key. key < 2 ^ 32)
  pub sequence : IfSome header.sequence (λ sequence. sequence < 2 ^ 32)
  pub paired : IsSome header.key → IsSome header.sequence
  pub protocol : IsProtocol header.protocol

-- the first half of the first word: the flags of key and sequence number, seven bits that are ignored,
-- and the version 0
abbrev pub flags_word : Header → ℕ → ℕ
flags_word header ignored =
    2 ^ 13 * from_bool (is_some header.key) + 2 ^ 12 * from_bool (is_some header.sequence) + 8 * ignored

-- a number of 32 bits, where it is there
abbrev pub optional_word : Option ℕ → List ℕ
optional_word None = []
optional_word (Some number) = to_be_bytes w32 number

-- all octets of a header with these ignored bits
abbrev pub spelling : Header → ℕ → List ℕ
spelling header ignored =
    to_be_bytes w16 (flags_word header ignored)
    ++ (to_be_bytes w16 header.protocol ++ (optional_word header.key ++ optional_word header.sequence))

-- The octets begin with the spelling of the header, with some ignored bits, and the rest follows.
pub record Spells (header : Header) (rest octets : List ℕ) : Type 0 where
  pub fits : IsHeader header
  pub ignored : ℕ
  pub ignored_fits : ignored < 128
  pub whole : octets ≡ spelling header ignored ++ rest
