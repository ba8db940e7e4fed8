-- The tests of a compound in their order, each with the offset of its packet.
use Rattle.std.specs.Prelude.{◌≡◌, ℕ, zero, suc, ◌+◌, ◌-◌, ◌*◌, ◌/◌, ◌%◌, List, [], ◌∷◌, length, take, drop}
use Rattle.std.specs.Prelude.{slice_index, Option, Some, None, Bool, true, false, not, ◌&&◌, ◌||◌, if◌then◌else◌, ◌==◌}
use Rattle.std.specs.Prelude.{nat_lt, nat_le}
use Rattle.std.specs.Int.{w16, from_be_bytes}
use Rattle.rtcp_compound.specs.Chunks.{has_chunks}
use Rattle.rtcp_compound.specs.Compound.{Content, content_of}
use Rattle.rtcp_compound.specs.declared.refusal.RtcpWhy.{RtcpWhy}
use Rattle.rtcp_compound.specs.declared.refusal.RtcpWhy.TheVariants.{Short, Version, Kind, First, Length, Padding, Body}
use Rattle.rtcp_compound.specs.declared.refusal.RtcpBad.{RtcpBad}

-- the fields of the packet at the front: its version
abbrev pub version_in : List ℕ → ℕ
version_in octets = slice_index octets 0 / 64

-- its flag P
abbrev pub is_padded : List ℕ → Bool
is_padded octets = slice_index octets 0 / 32 % 2 == 1

-- its count, subtype or format
abbrev pub count_in : List ℕ → ℕ
count_in octets = slice_index octets 0 % 32

-- its packet type
abbrev pub kind_in : List ℕ → ℕ
kind_in octets = slice_index octets 1

-- the octets of the whole packet, as its length field says
unfoldable pub length_in : List ℕ → ℕ
length_in octets = 4 * (from_be_bytes w16 (take 2 (drop 2 octets)) + 1)

-- the octets of padding that the last one of the packet counts
abbrev pub padding_in : List ℕ → ℕ
padding_in octets = if is_padded octets then slice_index octets (length_in octets - 1) else 0

-- the body without padding
abbrev pub body_in : List ℕ → List ℕ
body_in octets = take (length_in octets - padding_in octets - 4) (drop 4 octets)

-- A packet of this size, with so many octets left at its front, is the last one, and its padding is one or more
-- whole words of the body.
abbrev pub is_padding : ℕ → ℕ → ℕ → Bool
is_padding size left padding = size == left && (not (padding == 0) && (padding % 4 == 0 && nat_le padding (size - 4)))

-- padding stands in the last packet alone, and is as it is to be
abbrev pub pads_well : List ℕ → Bool
pads_well octets = not (is_padded octets) || is_padding (length_in octets) (length octets) (padding_in octets)

-- nothing, or a length and at least so many octets
abbrev pub is_reason : List ℕ → Bool
is_reason [] = true
is_reason (size ∷ rest) = nat_le size (length rest)

-- the body holds what its type and count say
abbrev pub has_body : ℕ → ℕ → List ℕ → Bool
has_body kind count body =
    if kind == 200 then nat_le (24 + 24 * count) (length body)
    else (if kind == 201 then nat_le (4 + 24 * count) (length body)
    else (if kind == 202 then has_chunks count body
    else (if kind == 203 then nat_le (4 * count) (length body) && is_reason (drop (4 * count) body)
    else (if kind == 204 || (kind == 205 || kind == 206) then nat_le 8 (length body)
    else true))))

-- the first test that the packet at the front fails; types are 192 to 223 (this profile), and the first packet of all
-- is to be a report
abbrev pub fault_at : Bool → List ℕ → Option RtcpWhy
fault_at first octets =
    if nat_lt (length octets) 4 then Some Short
    else (if not (version_in octets == 2) then Some Version
    else (if not (nat_le 192 (kind_in octets) && nat_le (kind_in octets) 223) then Some Kind
    else (if first && not (kind_in octets == 200 || kind_in octets == 201) then Some First
    else (if nat_lt (length octets) (length_in octets) then Some Length
    else (if not (pads_well octets) then Some Padding
    else (if not (has_body (kind_in octets) (count_in octets) (body_in octets)) then Some Body
    else None))))))

-- the refusal of the packet at this offset, or what comes of the later ones
abbrev pub refused_or : ℕ → Option RtcpWhy → Option RtcpBad → Option RtcpBad
refused_or place (Some why) later = Some (record { why = why; place = place })
refused_or place None later = later

-- the first test that fails from this offset on, and where; the packets are at most so many
abbrev pub fault_within : ℕ → ℕ → List ℕ → Option RtcpBad
fault_within zero place octets = None
fault_within (suc most) place octets =
    refused_or place (fault_at (place == 0) octets)
    (if nat_lt (length_in octets) (length octets)
    then fault_within most (place + length_in octets) (drop (length_in octets) octets) else None)

-- the first test that fails, packet by packet, and the offset of that packet
unfoldable pub fault_of : List ℕ → Option RtcpBad
fault_of octets = fault_within (suc (length octets)) 0 octets

-- the contents of the packets one after another; they are at most so many
abbrev pub packets_within : ℕ → List ℕ → List Content
packets_within zero octets = []
packets_within (suc most) [] = []
packets_within (suc most) (x ∷ xs) =
    content_of (kind_in (x ∷ xs)) (count_in (x ∷ xs)) (body_in (x ∷ xs))
    ∷ packets_within most (drop (length_in (x ∷ xs)) (x ∷ xs))

-- nothing, or packets one after another, each without a fault as a later one; they are at most so many
abbrev pub ArePackets : ℕ → List ℕ → Type 0
ArePackets zero octets = octets ≡ []
ArePackets (suc most) [] = Unit {0}
ArePackets (suc most) (x ∷ xs) = (fault_at false (x ∷ xs) ≡ None) × ArePackets most (drop (length_in (x ∷ xs)) (x ∷ xs))

-- the contents of the packets that octets without a fault spell
unfoldable pub packets_in : List ℕ → List Content
packets_in octets = packets_within (length octets) octets
