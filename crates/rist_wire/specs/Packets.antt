-- The RTP packets of media (RFC 3550, section 5.1).
use Rattle.std.specs.Prelude.{ℕ, ◌+◌, ◌/◌, ◌%◌, ◌^◌, ◌||◌, List, if◌then◌else◌, Option, Some, None, is_some}
use Rattle.std.specs.Int.{from_bool}
use Rattle.seq_unwrap.specs.declared.width.Width.{Width}
use Rattle.seq_unwrap.specs.declared.width.Width.TheVariants.{W16, W32}
use Rattle.seq_unwrap.specs.Nearest.{cycle_of}
use Rattle.ts_nulls.specs.Shape.{Shape}
use Rattle.rist_ext.specs.declared.ext_word.ExtWord.{ExtWord}
use Rattle.rist_ext.specs.declared.ext_word.TheConstants.{RIST_PROFILE}
use Rattle.rist_ext.specs.Extension.{spelling as extension_spelling, nothing_unread}
use Rattle.rtp_packet.specs.declared.writing.RtpHead.{RtpHead}
use Rattle.rtp_packet.specs.Rtp.{RtpPacket, spelling as rtp_spelling}
use Rattle.rtp_packet.specs.Writing.{packet_with}
use Rattle.rist_wire.specs.Media.{MediaValue}
use Rattle.rist_wire.specs.Writing.{MediaOut}

-- the upper half of a number of 32 bits
abbrev pub upper_for : Width → ℕ → Option ℕ
upper_for W16 number = None
upper_for W32 number = Some (number / 2 ^ 16 % 2 ^ 16)

-- the word of the extension
abbrev pub word_for : Width → ℕ → Option Shape → ExtWord
word_for width number strip = record { strip = strip; upper = upper_for width number }

-- the extension stands exactly where null packets were deleted or numbers have 32 bits
abbrev pub extension_for : ExtWord → Option (ℕ × List ℕ)
extension_for word =
    if is_some word.strip || is_some word.upper then Some (RIST_PROFILE, extension_spelling word nothing_unread)
    else None

-- the header: the lowest bit of the source (SSRC) says that the packet is sent again
abbrev pub head_for : MediaOut → RtpHead
head_for media = record {
  number = media.number % 2 ^ 16;
  stamp = media.stamp;
  ssrc = media.flow + from_bool media.again;
}

-- the packet of media
abbrev pub packet_for : Width → MediaOut → RtpPacket
packet_for width media =
    packet_with (head_for media) (extension_for (word_for width media.number media.strip)) media.payload

-- its octets
abbrev pub media_octets : Width → MediaOut → List ℕ
media_octets width media = rtp_spelling (packet_for width media) None

-- what is read back
abbrev pub media_value : Width → MediaOut → MediaValue
media_value width media = record {
  flow = media.flow;
  again = media.again;
  width = width;
  word = media.number % cycle_of width;
  stamp = media.stamp;
  strip = media.strip;
  payload = media.payload;
}
