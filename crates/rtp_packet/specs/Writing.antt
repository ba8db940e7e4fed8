-- The packets that are written: payload type 33, an MPEG-2 transport stream (RFC 3551, section 6), with
-- no marker, no sources and no padding.
use Rattle.std.specs.Prelude.{ℕ, ◌+◌, ◌*◌, ◌^◌, ◌<◌, List, [], ◌∷◌, ◌++◌, Bool, false, Option}
use Rattle.std.specs.Int.{w16, w32, to_be_bytes, from_bool}
use Rattle.rtp_packet.specs.declared.writing.RtpHead.{RtpHead}
use Rattle.rtp_packet.specs.declared.writing.TheConstants.{PAYLOAD_TYPE_MP2T}
use Rattle.rtp_packet.specs.Rtp.{RtpPacket}

-- each field fits its bits
pub record IsHead (head : RtpHead) : Type 0 where
  pub number : head.number < 2 ^ 16
  pub stamp : head.stamp < 2 ^ 32
  pub ssrc : head.ssrc < 2 ^ 32

-- the packet of a head, an extension and a payload
abbrev pub packet_with : RtpHead → Option (ℕ × List ℕ) → List ℕ → RtpPacket
packet_with head extension payload = record {
  marker = false;
  payload_type = PAYLOAD_TYPE_MP2T;
  number = head.number;
  stamp = head.stamp;
  ssrc = head.ssrc;
  sources = [];
  extension = extension;
  payload = payload;
}

-- the twelve octets of its header
abbrev pub header_octets : RtpHead → Bool → List ℕ
header_octets head extended =
    (128 + 16 * from_bool extended) ∷ PAYLOAD_TYPE_MP2T ∷
    (to_be_bytes w16 head.number ++ (to_be_bytes w32 head.stamp ++ to_be_bytes w32 head.ssrc))
