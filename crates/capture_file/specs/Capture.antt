-- The capture file (this profile): eight octets of a name, and then records one after another. A record is its link (8
-- bits), its channel (8 bits), its length (16 bits), its time in microseconds (64 bits), and its octets. Numbers are
-- big-endian.
use Rattle.std.specs.Prelude.{◌≡◌, ℕ, ◌^◌, ◌<◌, ◌≤◌, List, [], ◌∷◌, ◌++◌, length, flat_map, All}
use Rattle.link_channels.specs.declared.bounds.TheConstants.{MAX_LINKS}
use Rattle.link_channels.specs.declared.bounds.TheConstants.{MAX_DATAGRAM}
use Rattle.std.specs.Int.{w16, w64, to_be_bytes}
use Rattle.link_channels.specs.declared.channel.Channel.{Channel}
use Rattle.link_channels.specs.declared.channel.Channel.TheVariants.{Media, Control, Tunnel}

-- one datagram, with the link and the channel that it came on, and its time in microseconds
pub record Record : Type 0 where
  pub link : ℕ
  pub channel : Channel
  pub us : ℕ
  pub octets : List ℕ

-- the octet of a channel
abbrev pub channel_code : Channel → ℕ
channel_code Media = 0
channel_code Control = 1
channel_code Tunnel = 2

-- the twelve octets of a head: link, channel, length, time
abbrev pub head_spelling : ℕ → Channel → ℕ → ℕ → List ℕ
head_spelling link channel len us = link ∷ channel_code channel ∷ (to_be_bytes w16 len ++ to_be_bytes w64 us)

-- the octets of a record
abbrev pub spelling : Record → List ℕ
spelling r = head_spelling r.link r.channel (length r.octets) r.us ++ r.octets

-- the record can be spelled
pub record Fits (r : Record) : Type 0 where
  pub link : r.link < MAX_LINKS
  pub us : r.us < 2 ^ 64
  pub octets : length r.octets ≤ MAX_DATAGRAM

-- `RISTCAP1`
abbrev pub magic : List ℕ
magic = 82 ∷ 73 ∷ 83 ∷ 84 ∷ 67 ∷ 65 ∷ 80 ∷ 49 ∷ []

-- the octets are the name and these records
pub record IsCapture (rs : List Record) (b : List ℕ) : Type 0 where
  pub each : All Fits rs
  pub whole : b ≡ magic ++ flat_map spelling rs

-- no record stands whole at the front
abbrev pub NoRecord : List ℕ → Type 0
NoRecord rest = (r : Record) (more : List ℕ) → Fits r → rest ≡ spelling r ++ more → ⊥

-- these are the whole records at the front of the octets
pub record IsFront (rs : List Record) (b : List ℕ) : Type 0 where
  pub each : All Fits rs
  pub rest : List ℕ
  pub whole : b ≡ magic ++ flat_map spelling rs ++ rest
  pub no_more : NoRecord rest
