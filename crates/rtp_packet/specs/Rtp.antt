-- RTP data packets (RFC 3550, sections 5.1 and 5.3.1), and which octets spell them.
use Rattle.std.specs.Prelude.{◌≡◌, ℕ, ◌+◌, ◌*◌, ◌/◌, ◌%◌, ◌^◌, ◌<◌, ◌≤◌, Bool, List, [], ◌∷◌, ◌++◌, length, Option}
use Rattle.std.specs.Prelude.{Some, None, is_some, IfSome}
use Rattle.std.specs.Int.{w16, w32, to_be_bytes, from_bool}

-- A packet without its padding. The sources (CSRC) and the words of an extension, behind its profile
-- word, are octets of whole 32-bit words.
pub record RtpPacket : Type 0 where
  pub marker : Bool
  pub payload_type : ℕ
  pub number : ℕ
  pub stamp : ℕ
  pub ssrc : ℕ
  pub sources : List ℕ
  pub extension : Option (ℕ × List ℕ)
  pub payload : List ℕ

-- so many whole 32-bit words at most
pub record AreWords (most : ℕ) (octets : List ℕ) : Type 0 where
  pub whole : length octets % 4 ≡ 0
  pub few : length octets ≤ 4 * most

-- a profile word, and no more words than its count of 16 bits can say
pub record IsExtension (extension : ℕ × List ℕ) : Type 0 where
  pub profile : extension.0 < 2 ^ 16
  pub words : AreWords 65535 extension.1

-- each field fits its bits
pub record IsPacket (packet : RtpPacket) : Type 0 where
  pub payload_type : packet.payload_type < 128
  pub number : packet.number < 2 ^ 16
  pub stamp : packet.stamp < 2 ^ 32
  pub ssrc : packet.ssrc < 2 ^ 32
  pub sources : AreWords 15 packet.sources
  pub extension : IfSome packet.extension IsExtension

-- an extension: its profile word, the count of its words, and these
abbrev pub extension_octets : Option (ℕ × List ℕ) → List ℕ
extension_octets None = []
extension_octets (Some extension) =
    to_be_bytes w16 extension.0 ++ (to_be_bytes w16 (length extension.1 / 4) ++ extension.1)

-- Padding is any octets, and behind them a count of all of it.
abbrev pub padding_octets : Option (List ℕ) → List ℕ
padding_octets None = []
padding_octets (Some fill) = fill ++ (length fill + 1) ∷ []

-- version 2 in two bits, the flags of padding and extension, and the count of sources in four
abbrev pub first_octet : RtpPacket → Option (List ℕ) → ℕ
first_octet packet padding =
    128 + 32 * from_bool (is_some padding) + 16 * from_bool (is_some packet.extension) + length packet.sources / 4

-- all octets of a packet with this padding
unfoldable pub spelling : RtpPacket → Option (List ℕ) → List ℕ
spelling packet padding =
    first_octet packet padding ∷ (128 * from_bool packet.marker + packet.payload_type) ∷
    (to_be_bytes w16 packet.number ++ (to_be_bytes w32 packet.stamp ++ (to_be_bytes w32 packet.ssrc
    ++ (packet.sources ++ (extension_octets packet.extension
    ++ (packet.payload ++ padding_octets padding))))))

-- The octets spell the packet: they are its spelling with some padding, or with none.
pub record Spells (packet : RtpPacket) (octets : List ℕ) : Type 0 where
  pub packet_fits : IsPacket packet
  pub padding : Option (List ℕ)
  pub padding_fits : IfSome padding (λ fill. length fill < 255)
  pub whole : octets ≡ spelling packet padding
