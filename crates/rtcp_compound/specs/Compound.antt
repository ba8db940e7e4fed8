-- RTCP packets and compounds (RFC 3550, sections 6.1 and 6.4 to 6.7; RFC 4585, section 6.1).
use Rattle.std.specs.Prelude.{◌≡◌, ℕ, ◌+◌, ◌*◌, ◌/◌, ◌%◌, ◌^◌, ◌<◌, ◌≤◌, ◌⊎◌, List, [], ◌∷◌, ◌++◌, length, take, drop}
use Rattle.std.specs.Prelude.{map, slice_index, if◌then◌else◌, ◌==◌}
use Rattle.std.specs.List.{flat_map, AllByRecursion}
use Rattle.std.specs.Int.{w16, w32, to_be_bytes, from_be_bytes}
use Rattle.rtcp_compound.specs.Chunks.{AreChunks}

-- what a packet says, without where it lies in memory
pub data Content : Type 0 where
  sender_report : (ssrc seconds fraction rtp_time packets octets : ℕ) (blocks : List ℕ) → Content
  receiver_report : (ssrc : ℕ) (blocks : List ℕ) → Content
  description : (count : ℕ) (chunks : List ℕ) → Content
  goodbye : (count : ℕ) (rest : List ℕ) → Content
  application : (subtype ssrc : ℕ) (name words : List ℕ) → Content
  feedback : (kind format sender media : ℕ) (words : List ℕ) → Content
  other : (kind count : ℕ) (body : List ℕ) → Content

-- the packet type
abbrev pub kind_of : Content → ℕ
kind_of (sender_report ssrc seconds fraction rtp_time packets octets blocks) = 200
kind_of (receiver_report ssrc blocks) = 201
kind_of (description count chunks) = 202
kind_of (goodbye count rest) = 203
kind_of (application subtype ssrc name words) = 204
kind_of (feedback kind format sender media words) = kind
kind_of (other kind count body) = kind

-- the 32-bit number at a place of a body
unfoldable pub number_at : ℕ → List ℕ → ℕ
number_at place body = from_be_bytes w32 (take 4 (drop place body))

-- the content of a packet by its type, its five bits of count, subtype or format, and its body
abbrev pub content_of : ℕ → ℕ → List ℕ → Content
content_of kind count body =
    if kind == 200 then sender_report (number_at 0 body) (number_at 4 body) (number_at 8 body) (number_at 12 body)
    (number_at 16 body) (number_at 20 body) (take (24 * count) (drop 24 body))
    else (if kind == 201 then receiver_report (number_at 0 body) (take (24 * count) (drop 4 body))
    else (if kind == 202 then description count body
    else (if kind == 203 then goodbye count body
    else (if kind == 204 then application count (number_at 0 body) (take 4 (drop 4 body)) (drop 8 body)
    else (if kind == 205 then feedback kind count (number_at 0 body) (number_at 4 body) (drop 8 body)
    else (if kind == 206 then feedback kind count (number_at 0 body) (number_at 4 body) (drop 8 body)
    else other kind count body))))))

-- a packet as it is written: count, subtype or format; type; body; padding
pub record Wire : Type 0 where
  pub count : ℕ
  pub kind : ℕ
  pub body : List ℕ
  pub padding : List ℕ

-- what it says
abbrev pub content : Wire → Content
content w = content_of w.kind w.count w.body

-- the bit P is set where padding stands
abbrev pub padding_bit : List ℕ → ℕ
padding_bit [] = 0
padding_bit (x ∷ xs) = 32

-- version 2, P and count; type; the length in words less one; body and padding
abbrev pub spelling : Wire → List ℕ
spelling w =
    (128 + padding_bit w.padding + w.count) ∷ w.kind
    ∷ (to_be_bytes w16 ((length w.body + length w.padding) / 4) ++ (w.body ++ w.padding))

-- none, or whole words, the last octet of which counts them
abbrev pub IsPadding : List ℕ → Type 0
IsPadding [] = Unit {0}
IsPadding (x ∷ xs) = (length (x ∷ xs) % 4 ≡ 0) × (slice_index (x ∷ xs) (length xs) ≡ length (x ∷ xs))

-- nothing, or a length and at least so many octets (RFC 3550, section 6.6)
abbrev pub IsReason : List ℕ → Type 0
IsReason [] = Unit {0}
IsReason (size ∷ rest) = size ≤ length rest

-- the body holds what its type and count say; other types hold anything
pub record Holds (kind count : ℕ) (body : List ℕ) : Type 0 where
  pub sender_report : kind ≡ 200 → 24 + 24 * count ≤ length body
  pub receiver_report : kind ≡ 201 → 4 + 24 * count ≤ length body
  pub description : kind ≡ 202 → AreChunks count body
  pub goodbye : kind ≡ 203 → (4 * count ≤ length body) × IsReason (drop (4 * count) body)
  pub application : kind ≡ 204 → 8 ≤ length body
  pub feedback : (kind ≡ 205) ⊎ (kind ≡ 206) → 8 ≤ length body

-- a packet of whole words: its header's fields fit, its type is 192 to 223 (this profile), its padding counts itself,
-- and its body is whole
pub record IsWire (w : Wire) : Type 0 where
  pub count : w.count < 32
  pub low : 192 ≤ w.kind
  pub high : w.kind ≤ 223
  pub whole : (length w.body + length w.padding) % 4 ≡ 0
  pub size : length w.body + length w.padding < 2 ^ 18
  pub padding : IsPadding w.padding
  pub body : Holds w.kind w.count w.body

-- a sender's or a receiver's report
abbrev pub IsReport : ℕ → Type 0
IsReport kind = (kind ≡ 200) ⊎ (kind ≡ 201)

-- the first packet is a report
abbrev pub BeginsWithReport : List Wire → Type 0
BeginsWithReport [] = ⊥
BeginsWithReport (w ∷ ws) = IsReport w.kind

-- no packet but the last has padding
abbrev pub PadsLast : List Wire → Type 0
PadsLast [] = Unit {0}
PadsLast (w ∷ []) = Unit {0}
PadsLast (w ∷ v ∷ ws) = (w.padding ≡ []) × PadsLast (v ∷ ws)

-- the octets spell these packets, one after another
pub record IsCompound (ps : List Content) (octets : List ℕ) : Type 0 where
  pub packets : List Wire
  pub each : AllByRecursion IsWire packets
  pub first : BeginsWithReport packets
  pub last : PadsLast packets
  pub whole : octets ≡ flat_map spelling packets
  pub contents : ps ≡ map content packets
