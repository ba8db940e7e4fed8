-- What a datagram carries of a stream (RFC 3550, section 5.1; RFC 2250, section 2).
use Rattle.std.specs.Prelude.{ℕ, nat_le, List, [], length, if◌then◌else◌, Result, Ok, Err, None}
use Rattle.link_channels.specs.declared.bounds.TheConstants.{MAX_PAYLOAD}
use Rattle.media_address.specs.declared.address.Form.{Form}
use Rattle.media_address.specs.declared.address.Form.TheVariants as forms
use Rattle.rtp_packet.specs.Reading.{RtpValue, reading_of}
use Rattle.rtp_packet.specs.Rtp.{spelling}
use Rattle.rtp_packet.specs.Writing.{packet_with}
use Rattle.rtp_packet.specs.declared.bad.RtpBad.{RtpBad}
use Rattle.rtp_packet.specs.declared.writing.RtpHead.{RtpHead}

-- the payload of what was read, where it is RTP
abbrev pub payload_in : Result RtpValue RtpBad → List ℕ
payload_in (Ok value) = value.payload
payload_in (Err bad) = []

-- the octets of the stream: all, or the payload without the header, its sources, its extension and the padding
abbrev pub media_of : Form → List ℕ → List ℕ
media_of forms.Udp octets = octets
media_of forms.Rtp octets = payload_in (reading_of octets)

-- the payload that it gives: all that it carries, or none where that is more than 1,500 octets
abbrev pub payload_of : Form → List ℕ → List ℕ
payload_of form octets = if nat_le (length (media_of form octets)) MAX_PAYLOAD then media_of form octets else []

-- the datagram of a payload: it alone, or behind an RTP header
abbrev pub datagram_of : Form → RtpHead → List ℕ → List ℕ
datagram_of forms.Udp head payload = payload
datagram_of forms.Rtp head payload = spelling (packet_with head None payload) None
