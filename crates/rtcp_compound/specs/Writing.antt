-- What is written (this profile): packets without padding, one after another.
use Rattle.std.specs.Prelude.{◌≡◌, ℕ, ◌⊎◌, List, [], ◌∷◌, ◌++◌}
use Rattle.std.specs.List.{flat_map, AllByRecursion}
use Rattle.std.specs.Int.{w32, to_be_bytes}
use Rattle.rtcp_compound.specs.Compound.{Content, Wire, spelling, IsWire, BeginsWithReport}

-- what a compound that is being written shows: the packets put so far, and their octets
pub record Written : Type 0 where
  pub packets : List Content
  pub octets : List ℕ

-- numbers of 32 bits, one after another
abbrev pub numbers_spelling : List ℕ → List ℕ
numbers_spelling numbers = flat_map (to_be_bytes w32) numbers

-- a packet without padding whose body is numbers of 32 bits and then octets
abbrev pub plain : ℕ → ℕ → List ℕ → List ℕ → Wire
plain count kind numbers words =
    record { count = count; kind = kind; body = numbers_spelling numbers ++ words; padding = [] }

-- one more packet was put
abbrev pub with_packet : Written → Content → List ℕ → Written
with_packet old packet octets = record { packets = old.packets ++ packet ∷ []; octets = old.octets ++ octets }

-- one packet more stands behind those put so far, with these octets
abbrev pub Gains : Written → Written → Content → List ℕ → Type 0
Gains old new packet octets = new ≡ with_packet old packet octets

-- a sender's report with no blocks
abbrev pub sr_octets : ℕ → ℕ → ℕ → ℕ → ℕ → ℕ → List ℕ
sr_octets ssrc seconds fraction rtp_time packets octets =
    spelling (plain 0 200 (ssrc ∷ seconds ∷ fraction ∷ rtp_time ∷ packets ∷ octets ∷ []) [])

-- a receiver's report with no blocks
abbrev pub rr_octets : ℕ → List ℕ
rr_octets ssrc = spelling (plain 0 201 (ssrc ∷ []) [])

-- the item CNAME, `rist`, the zero octet and one of fill
abbrev pub name_item : List ℕ
name_item = 1 ∷ 4 ∷ 114 ∷ 105 ∷ 115 ∷ 116 ∷ 0 ∷ 0 ∷ []

-- a source description with one chunk, whose CNAME is `rist`
abbrev pub sdes_octets : ℕ → List ℕ
sdes_octets ssrc = spelling (plain 1 202 (ssrc ∷ []) name_item)

-- an application's packet
abbrev pub app_octets : ℕ → ℕ → List ℕ → List ℕ → List ℕ
app_octets subtype ssrc name words =
    spelling (record { count = subtype; kind = 204; body = to_be_bytes w32 ssrc ++ (name ++ words); padding = [] })

-- a feedback message
abbrev pub feedback_octets : ℕ → ℕ → ℕ → ℕ → List ℕ → List ℕ
feedback_octets kind format sender media words = spelling (plain format kind (sender ∷ media ∷ []) words)

-- the octets are packets without padding, the first of them a report
pub record AreWritten (octets : List ℕ) : Type 0 where
  pub packets : List Wire
  pub each : AllByRecursion IsWire packets
  pub plain : AllByRecursion (λ w. w.padding ≡ []) packets
  pub first : (packets ≡ []) ⊎ BeginsWithReport packets
  pub whole : octets ≡ flat_map spelling packets
