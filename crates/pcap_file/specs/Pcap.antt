-- Captures of the network in the classic pcap format, version 2.4 (draft-ietf-opsawg-pcap, sections 4 and 5): a header,
-- and then packet records one after another.
use Rattle.std.specs.Prelude.{◌≡◌, ℕ, ◌+◌, ◌*◌, ◌/◌, ◌%◌, ◌^◌, ◌<◌, ◌≤◌, ◌||◌, ◌==◌, Bool, true, List, ◌++◌, length}
use Rattle.std.specs.Prelude.{take, flat_map, map, All}
use Rattle.std.specs.Int.{w16, w32, to_be_bytes, to_le_bytes}
use Rattle.pcap_file.specs.declared.format.ByteOrder.{ByteOrder}
use Rattle.pcap_file.specs.declared.format.ByteOrder.TheVariants.{Big, Little}
use Rattle.pcap_file.specs.declared.format.Fraction.{Fraction}
use Rattle.pcap_file.specs.declared.format.Fraction.TheVariants.{Micros, Nanos}
use Rattle.pcap_file.specs.declared.format.Format.{Format}

-- the two octets of a number in this order
abbrev pub spelled_16 : ByteOrder → ℕ → List ℕ
spelled_16 Big n = to_be_bytes w16 n
spelled_16 Little n = to_le_bytes w16 n

-- and the four
abbrev pub spelled_32 : ByteOrder → ℕ → List ℕ
spelled_32 Big n = to_be_bytes w32 n
spelled_32 Little n = to_le_bytes w32 n

-- the number that a file begins with: it tells the order, and what the fractions of its times are
abbrev pub magic_of : Fraction → ℕ
magic_of Micros = 0xA1B2C3D4
magic_of Nanos = 0xA1B23C4D

-- the link types that are taken: Ethernet, and raw IP
abbrev pub ethernet : ℕ
ethernet = 1

-- IP with no header of a link before it
abbrev pub raw_ip : ℕ
raw_ip = 101

-- one of the two
abbrev pub is_link_type : ℕ → Bool
is_link_type link_type = (link_type == ethernet) || (link_type == raw_ip)

-- The octets are a header of this format: the magic number, the version 2.4, three numbers of 32 bits that are not
-- read, and the link type, the low half of a number of 32 bits.
pub record IsHeader (format : Format) (octets : List ℕ) : Type 0 where
  pub unread : List ℕ
  pub unread_len : length unread ≡ 12
  pub link_word : ℕ
  pub link_fits : link_word < 2 ^ 32
  pub link_type : link_word % 2 ^ 16 ≡ format.link_type
  pub known : is_link_type format.link_type ≡ true
  pub whole : octets ≡ spelled_32 format.order (magic_of format.fraction)
      ++ (spelled_16 format.order 2 ++ (spelled_16 format.order 4 ++ (unread ++ spelled_32 format.order link_word)))

-- a packet record: when it was captured, in seconds and a fraction, how long the packet was, and the octets of it that
-- were kept
pub record Packet : Type 0 where
  pub seconds : ℕ
  pub fraction : ℕ
  pub first_len : ℕ
  pub octets : List ℕ

-- each number fits 32 bits, and the octets are at most 262,144 (this profile)
pub record Fits (packet : Packet) : Type 0 where
  pub seconds : packet.seconds < 2 ^ 32
  pub fraction : packet.fraction < 2 ^ 32
  pub first_len : packet.first_len < 2 ^ 32
  pub octets : length packet.octets ≤ 2 ^ 18

-- the sixteen octets of a record before its own
abbrev pub head_spelling : ByteOrder → ℕ → ℕ → ℕ → ℕ → List ℕ
head_spelling order seconds fraction len first_len =
    spelled_32 order seconds ++ (spelled_32 order fraction ++ (spelled_32 order len ++ spelled_32 order first_len))

-- the octets of a record in this order
abbrev pub spelling : ByteOrder → Packet → List ℕ
spelling order packet =
    head_spelling order packet.seconds packet.fraction (length packet.octets) packet.first_len ++ packet.octets

-- the octets are a header of this format and these records
pub record IsPcap (format : Format) (packets : List Packet) (octets : List ℕ) : Type 0 where
  pub header : List ℕ
  pub is_header : IsHeader format header
  pub each : All Fits packets
  pub whole : octets ≡ header ++ flat_map (spelling format.order) packets

-- a time in microseconds: a fraction in nanoseconds is rounded down
abbrev pub micros_at : Fraction → ℕ → ℕ → ℕ
micros_at Micros seconds fraction = seconds * 1000000 + fraction
micros_at Nanos seconds fraction = seconds * 1000000 + fraction / 1000

-- how many octets of a record are given at most (this profile)
abbrev pub most_given : ℕ
most_given = 4096

-- what is given of a packet record: its time in microseconds, the file's link type, and the first 4,096 octets
pub record Captured : Type 0 where
  pub at_us : ℕ
  pub link_type : ℕ
  pub octets : List ℕ

-- the frame of a record
abbrev pub frame_of : Format → Packet → Captured
frame_of format packet = record {
  at_us = micros_at format.fraction packet.seconds packet.fraction;
  link_type = format.link_type;
  octets = take most_given packet.octets;
}

-- the octets are a pcap file with these frames
pub record HasFrames (frames : List Captured) (octets : List ℕ) : Type 0 where
  pub format : Format
  pub packets : List Packet
  pub file : IsPcap format packets octets
  pub same : frames ≡ map (frame_of format) packets
