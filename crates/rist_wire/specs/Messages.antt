-- Messages, without the headers of the tunnel, and the item that each says.
use Rattle.std.specs.Prelude.{ℕ, List, length, if◌then◌else◌, Option, Some, None, Result, Ok, Err}
use Rattle.gre_tunnel.specs.declared.tunnel.Tunnel.{Tunnel}
use Rattle.gre_tunnel.specs.declared.tunnel.Tunnel.TheVariants.{Own, Librist}
use Rattle.keepalive_msg.specs.declared.keepalive.Keepalive.{Keepalive}
use Rattle.keepalive_msg.specs.declared.keepalive.KeepBad.{KeepBad}
use Rattle.keepalive_msg.specs.Reading.{reading_of as keepalive_reading_of}
use Rattle.rtp_packet.specs.declared.bad.RtpBad.{RtpBad}
use Rattle.rtp_packet.specs.Reading.{RtpValue, reading_of as rtp_reading_of}
use Rattle.rtcp_compound.specs.declared.refusal.RtcpBad.{RtcpBad}
use Rattle.rtcp_compound.specs.Reading.{fault_of, packets_in}
use Rattle.rist_nack.specs.Requests.{flow_of}
use Rattle.rist_ext.specs.declared.ext_word.ExtWord.{ExtWord}
use Rattle.rist_ext.specs.declared.ext_word.ExtBad.{ExtBad}
use Rattle.rist_ext.specs.declared.ext_word.ExtBad.TheVariants.{Profile as OtherProfile, Length as OtherLength, Size}
use Rattle.rist_ext.specs.Reading.{reading_of as extension_reading_of}
use Rattle.rist_ext.specs.Counted.{counted_reading_of}
use Rattle.ts_nulls.specs.declared.nulls.NullBad.TheVariants.{Shape as BadShape}
use Rattle.rist_wire.specs.declared.bad.WireBad.{WireBad}
use Rattle.rist_wire.specs.declared.bad.WireBad.TheVariants.{Keepalive as NoKeepalive, Rtp as NoRtp, Rtcp as NoRtcp}
use Rattle.rist_wire.specs.declared.bad.WireBad.TheVariants.{Ext as NoExt, Nulls as NoNulls}
use Rattle.rist_wire.specs.declared.item.Item.{Item}
use Rattle.rist_wire.specs.declared.item.Item.TheVariants.{Media as MediaItem, Control as ControlItem}
use Rattle.rist_wire.specs.declared.item.Item.TheVariants.{Keepalive as KeepaliveItem}
use Rattle.rist_wire.specs.declared.item.Kind.{Kind}
use Rattle.rist_wire.specs.declared.item.Kind.TheVariants.{Media as MediaKind, Control as ControlKind}
use Rattle.rist_wire.specs.declared.item.Kind.TheVariants.{Keepalive as KeepaliveKind}
use Rattle.rist_wire.specs.Media.{MediaValue, can_restore, is_again, width_by, word_by}

-- a message without the headers of the tunnel
pub record Message : Type 0 where
  pub kind : Kind
  pub octets : List ℕ

-- ---- media

-- the word of a packet without a RIST extension: nothing was deleted, and numbers have 16 bits
abbrev pub no_word : ExtWord
no_word = record { strip = None; upper = None }

-- an extension with another profile word or count is stepped over
abbrev pub known_word : Result ExtWord ExtBad → Result ExtWord ExtBad
known_word (Ok word) = Ok word
known_word (Err OtherProfile) = Ok no_word
known_word (Err OtherLength) = Ok no_word
known_word (Err Size) = Err Size

-- what is read of an extension: in librist's tunnel it may not say how many packets there were, and then that follows
-- from how many octets are left of the payload
abbrev pub extension_word : Tunnel → ℕ → ℕ → List ℕ → Result ExtWord ExtBad
extension_word Own left profile octets = extension_reading_of profile octets
extension_word Librist left profile octets = counted_reading_of left profile octets

-- the word of a packet with so many octets of payload by its extension, if it has one
abbrev pub word_in : Tunnel → ℕ → Option (ℕ × List ℕ) → Result ExtWord ExtBad
word_in tunnel left None = Ok no_word
word_in tunnel left (Some extension) = known_word (extension_word tunnel left extension.0 extension.1)

-- the media of an RTP packet with this word
abbrev pub media_with : RtpValue → ExtWord → MediaValue
media_with rtp word = record {
  flow = flow_of rtp.ssrc;
  again = is_again rtp.ssrc;
  width = width_by word.upper;
  word = word_by word.upper rtp.number;
  stamp = rtp.stamp;
  strip = word.strip;
  payload = rtp.payload;
}

-- the payload has to be as long as the packets that weren't null
abbrev pub tested_media : MediaValue → Result Item WireBad
tested_media media = if can_restore media.strip media.payload then Ok (MediaItem media) else Err (NoNulls BadShape)

-- the media of an RTP packet with the word of its extension, or why it has none
abbrev pub media_by : RtpValue → Result ExtWord ExtBad → Result Item WireBad
media_by rtp (Ok word) = tested_media (media_with rtp word)
media_by rtp (Err bad) = Err (NoExt bad)

-- the item of what is read as RTP
abbrev pub rtp_item : Tunnel → Result RtpValue RtpBad → Result Item WireBad
rtp_item tunnel (Ok rtp) = media_by rtp (word_in tunnel (length rtp.payload) rtp.extension)
rtp_item tunnel (Err bad) = Err (NoRtp bad)

-- ---- control and keepalives

-- the list of packets of octets that no test of RTCP refuses
abbrev pub rtcp_item : List ℕ → Option RtcpBad → Result Item WireBad
rtcp_item octets None = Ok (ControlItem (packets_in octets))
rtcp_item octets (Some bad) = Err (NoRtcp bad)

-- the item of what is read as a keepalive
abbrev pub keepalive_item : Result Keepalive KeepBad → Result Item WireBad
keepalive_item (Ok keepalive) = Ok (KeepaliveItem keepalive)
keepalive_item (Err bad) = Err (NoKeepalive bad)

-- ---- the whole

-- the item of a message of this kind, or the first test that fails
abbrev pub item_by : Tunnel → Kind → List ℕ → Result Item WireBad
item_by tunnel MediaKind octets = rtp_item tunnel (rtp_reading_of octets)
item_by tunnel ControlKind octets = rtcp_item octets (fault_of octets)
item_by tunnel KeepaliveKind octets = keepalive_item (keepalive_reading_of octets)
