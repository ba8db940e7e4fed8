-- What is read of the octets of a datagram as RTP (RFC 3550, sections 5.1 and 5.3.1): the packet's
-- value, or the first test that fails. Bits are counted from the least significant.
use Rattle.std.specs.Prelude.{ℕ, ◌+◌, ◌-◌, ◌*◌, ◌/◌, ◌%◌, Bool, ◌&&◌, ◌||◌, not, List, length, take, drop, slice_index}
use Rattle.std.specs.Prelude.{if◌then◌else◌, ◌==◌, nat_lt, Option, Some, None, Result, Ok, Err}
use Rattle.std.specs.Borrow.{Bor}
use Rattle.std.specs.Int.{w16, w32, from_be_bytes, bit_at}
use Rattle.rtp_packet.specs.declared.bad.RtpBad.{RtpBad}
use Rattle.rtp_packet.specs.declared.bad.RtpBad.TheVariants.{Short, Version, Sources, Extension, Padding, Long}
use Rattle.link_channels.specs.declared.bounds.TheConstants.{MAX_PAYLOAD}
use Rattle.rtp_packet.specs.Rtp.{RtpPacket}

-- what a reader is given of a packet
pub record RtpValue : Type 0 where
  pub number : ℕ
  pub stamp : ℕ
  pub ssrc : ℕ
  pub extension : Option (ℕ × List ℕ)
  pub payload : List ℕ

-- the value of a packet: the marker, the payload type and the sources are left out
abbrev pub value_of : RtpPacket → RtpValue
value_of packet = record {
  number = packet.number;
  stamp = packet.stamp;
  ssrc = packet.ssrc;
  extension = packet.extension;
  payload = packet.payload;
}

-- an extension without where its words lie in memory
abbrev pub extension_shown : Option (ℕ × Bor (List ℕ)) → Option (ℕ × List ℕ)
extension_shown None = None
extension_shown (Some extension) = Some (extension.0, extension.1.now)

-- ---- the header

-- the version, in the first octet
abbrev pub version_of : List ℕ → ℕ
version_of octets = slice_index octets 0 / 64

-- the flag P, in the first octet
abbrev pub has_padding : List ℕ → Bool
has_padding octets = bit_at (slice_index octets 0) 5 == 1

-- the flag X, in the first octet
abbrev pub has_extension : List ℕ → Bool
has_extension octets = bit_at (slice_index octets 0) 4 == 1

-- how long the header is with its sources, but without an extension
abbrev pub header_len : List ℕ → ℕ
header_len octets = 12 + 4 * (slice_index octets 0 % 16)

-- ---- an extension, where the flag says that one stands at the front of the rest

-- how many octets it takes: four, and its words by their count
abbrev pub extension_len : Bool → List ℕ → ℕ
extension_len flag rest = if flag then 4 + 4 * from_be_bytes w16 (take 2 (drop 2 rest)) else 0

-- its four octets or its words pass the end
abbrev pub is_cut_extension : Bool → List ℕ → Bool
is_cut_extension flag rest = flag && (nat_lt (length rest) 4 || nat_lt (length rest) (extension_len flag rest))

-- its profile word and the octets of its words, where it isn't cut
abbrev pub extension_at : Bool → List ℕ → Option (ℕ × List ℕ)
extension_at flag rest =
    if flag then Some (from_be_bytes w16 (take 2 rest), take (extension_len flag rest - 4) (drop 4 rest)) else None

-- what follows it
abbrev pub after_extension : Bool → List ℕ → List ℕ
after_extension flag rest = drop (extension_len flag rest) rest

-- ---- padding, where the flag says that the rest ends in it

-- how many octets it takes: its last octet says so
abbrev pub padding_len : Bool → List ℕ → ℕ
padding_len flag rest = if flag then slice_index rest (length rest - 1) else 0

-- nothing is left, or the count is 0 or more than what is left
abbrev pub is_bad_padding : Bool → List ℕ → Bool
is_bad_padding flag rest = flag && (padding_len flag rest == 0 || nat_lt (length rest) (padding_len flag rest))

-- what stands before it, where it isn't bad
abbrev pub payload_at : Bool → List ℕ → List ℕ
payload_at flag rest = take (length rest - padding_len flag rest) rest

-- ---- the whole

-- what follows the sources
abbrev pub after_sources : List ℕ → List ℕ
after_sources octets = drop (header_len octets) octets

-- what follows the extension, or the sources where there is none
abbrev pub after_header : List ℕ → List ℕ
after_header octets = after_extension (has_extension octets) (after_sources octets)

-- the payload without padding
abbrev pub payload_of : List ℕ → List ℕ
payload_of octets = payload_at (has_padding octets) (after_header octets)

-- the value that stands in the octets, where no test fails
abbrev pub value_in : List ℕ → RtpValue
value_in octets = record {
  number = from_be_bytes w16 (take 2 (drop 2 octets));
  stamp = from_be_bytes w32 (take 4 (drop 4 octets));
  ssrc = from_be_bytes w32 (take 4 (drop 8 octets));
  extension = extension_at (has_extension octets) (after_sources octets);
  payload = payload_of octets;
}

-- The tests in their order. A payload is at most 1,500 octets (this profile).
unfoldable pub reading_of : List ℕ → Result RtpValue RtpBad
reading_of octets =
    if nat_lt (length octets) 12 then Err Short
    else (if not (version_of octets == 2) then Err Version
    else (if nat_lt (length octets) (header_len octets) then Err Sources
    else (if is_cut_extension (has_extension octets) (after_sources octets) then Err Extension
    else (if is_bad_padding (has_padding octets) (after_header octets) then Err Padding
    else (if nat_lt MAX_PAYLOAD (length (payload_of octets)) then Err Long
    else Ok (value_in octets))))))
