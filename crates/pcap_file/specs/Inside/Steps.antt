-- What the steps of a reader answer, by the octets that remained and that remain now, where those are told.
use Rattle.std.specs.Prelude.{◌≡◌, ℕ, ◌+◌, ◌^◌, ◌<◌, ◌≤◌, List, [], length, take, None, Some, Result, Ok, Err, IfSome}
use Rattle.std.specs.declared.option.Option.{Option}
use Rattle.outside_io.specs.Told.{Takes, IsEmpty}
use Rattle.pcap_file.specs.Pcap.{IsHeader, Packet, Fits, head_spelling, spelling, Captured, frame_of, most_given}
use Rattle.pcap_file.specs.Tests.{fault_of_header, fault_of_head, fault_at, kept_said}
use Rattle.pcap_file.specs.Reading.{IsCutShort, NoRecord, BeginsWith, shown}
use Rattle.pcap_file.specs.declared.format.ByteOrder.{ByteOrder}
use Rattle.pcap_file.specs.declared.format.Format.{Format}
use Rattle.pcap_file.specs.declared.head.Head.{Head}
use Rattle.pcap_file.specs.declared.reader.Step.{Step}
use Rattle.pcap_file.specs.declared.bad.PcapKind.TheVariants.{Truncated}
use Rattle.pcap_file.specs.declared.bad.PcapBad.{PcapBad}
use Rattle.pcap_file.specs.declared.bad.PcapBad.TheVariants.{Bad, ReadFault}

-- the sixteen octets that a head is spelled with
abbrev pub head_octets : ByteOrder → Head → List ℕ
head_octets order head = head_spelling order head.seconds head.fraction head.kept head.first_len

-- each number fits, and the record ends within the greatest offset
pub record IsHead (at : ℕ) (head : Head) : Type 0 where
  pub seconds : head.seconds < 2 ^ 32
  pub fraction : head.fraction < 2 ^ 32
  pub first_len : head.first_len < 2 ^ 32
  pub kept : head.kept ≤ 2 ^ 18
  pub end : at + 16 + head.kept ≤ 2 ^ 40

-- the header was read, or a test of it fails
abbrev pub ReadsHeader : Option (List ℕ) → Option (List ℕ) → Result Format PcapBad → Type 0
ReadsHeader old new (Ok format) = (header : List ℕ) × IsHeader format header × Takes old new header
ReadsHeader old new (Err (Bad kind place)) = (place ≡ 0) × IfSome old (λ b. fault_of_header (take 24 b) ≡ Some kind)
ReadsHeader old new (Err ReadFault) = IsCutShort old new (λ part. length part < 24)

-- the header was read where it was not yet
abbrev pub Enters : Option Format → Option (List ℕ) → Option (List ℕ) → Result Format PcapBad → Type 0
Enters known old new (Ok format) = (header : List ℕ) × BeginsWith known format header × Takes old new header
Enters known old new (Err (Bad kind place)) =
    (known ≡ None) × (place ≡ 0) × IfSome old (λ b. fault_of_header (take 24 b) ≡ Some kind)
Enters known old new (Err ReadFault) = (known ≡ None) × IsCutShort old new (λ part. length part < 24)

-- the sixteen octets of a record's head were read, or nothing is left, or a test of them fails
abbrev pub ReadsHead : ByteOrder → ℕ → Option (List ℕ) → Option (List ℕ) → Result (Option Head) PcapBad → Type 0
ReadsHead order at old new (Ok None) = Takes old new [] × IsEmpty new
ReadsHead order at old new (Ok (Some head)) =
    IsHead at head × (fault_of_head order at (head_octets order head) ≡ None)
    × (kept_said order (head_octets order head) ≡ head.kept) × Takes old new (head_octets order head)
ReadsHead order at old new (Err (Bad kind place)) =
    (place ≡ at) × IfSome old (λ b. (0 < length b) × (fault_of_head order at (take 16 b) ≡ Some kind))
ReadsHead order at old new (Err ReadFault) = IsCutShort old new (λ part. length part < 16)

-- so many octets were stepped over, or fewer are left
abbrev pub Skips : ℕ → ℕ → Option (List ℕ) → Option (List ℕ) → Result Unit PcapBad → Type 0
Skips at count old new (Ok x) = (octets : List ℕ) × (length octets ≡ count) × Takes old new octets
Skips at count old new (Err (Bad kind place)) = (kind ≡ Truncated) × (place ≡ at) × IfSome old (λ b. length b < count)
Skips at count old new (Err ReadFault) = IsCutShort old new (λ part. length part < count)

-- a record's octets were read, of which the first stand in the block, or fewer are left
abbrev pub ReadsBody : ℕ → ℕ → Option (List ℕ) → Option (List ℕ) → List ℕ → Result ℕ PcapBad → Type 0
ReadsBody at count old new buf (Ok given) =
    (octets : List ℕ) × (length octets ≡ count) × Takes old new octets × (take given buf ≡ take most_given octets)
ReadsBody at count old new buf (Err (Bad kind place)) =
    (kind ≡ Truncated) × (place ≡ at) × IfSome old (λ b. length b < count)
ReadsBody at count old new buf (Err ReadFault) = IsCutShort old new (λ part. length part < count)

-- a record of this format was read, and this is its frame
pub record IsRead (format : Format) (at : ℕ) (old new : Option (List ℕ)) (given : Captured) (end : ℕ) : Type 0 where
  pub packet : Packet
  pub fits : Fits packet
  pub takes : Takes old new (spelling format.order packet)
  pub same : given ≡ frame_of format packet
  pub place : end ≡ at + (16 + length packet.octets)

-- the record at this offset was read, or nothing is left, or a test of what stands there fails
abbrev pub ReadsRecord : Format → ℕ → Option (List ℕ) → Option (List ℕ) → List ℕ → Result (Option Step) PcapBad → Type 0
ReadsRecord format at old new buf (Ok None) = Takes old new [] × IsEmpty new
ReadsRecord format at old new buf (Ok (Some step)) = IsRead format at old new (shown step.frame buf) step.end
ReadsRecord format at old new buf (Err (Bad kind place)) =
    (place ≡ at) × IfSome old (λ rest. (0 < length rest) × (fault_at format.order place rest ≡ Some kind))
ReadsRecord format at old new buf (Err ReadFault) = IsCutShort old new (NoRecord format.order)
