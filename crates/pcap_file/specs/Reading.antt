-- What a reader answers, by the octets that remained and that remain now, where those are told.
use Rattle.std.specs.Prelude.{◌≡◌, ◌⊎◌, ℕ, ◌+◌, ◌<◌, List, [], ◌++◌, length, take, None, Some, Result, Ok, Err, IfSome}
use Rattle.std.specs.Prelude.{Bool, true, false}
use Rattle.std.specs.declared.option.Option.{Option}
use Rattle.outside_io.specs.Causes.{Fault, NoFault, Read}
use Rattle.outside_io.specs.Told.{Takes, IsEmpty}
use Rattle.pcap_file.specs.Pcap.{IsHeader, Packet, Fits, spelling, Captured, frame_of}
use Rattle.pcap_file.specs.Tests.{fault_of_header, fault_at}
use Rattle.pcap_file.specs.Reader.{ReaderState}
use Rattle.pcap_file.specs.declared.format.ByteOrder.{ByteOrder}
use Rattle.pcap_file.specs.declared.format.Format.{Format}
use Rattle.pcap_file.specs.declared.reader.Frame.{Frame}
use Rattle.pcap_file.specs.declared.bad.PcapKind.{PcapKind}
use Rattle.pcap_file.specs.declared.bad.PcapBad.{PcapBad}
use Rattle.pcap_file.specs.declared.bad.PcapBad.TheVariants.{Bad, ReadFault}

-- which call failed, by a reader's error
abbrev pub read_fault : PcapBad → Fault
read_fault (Bad kind place) = NoFault
read_fault ReadFault = Read

-- a read failed after this part of what remained, of which this holds
abbrev pub IsCutShort : Option (List ℕ) → Option (List ℕ) → (List ℕ → Type 0) → Type 0
IsCutShort old new P = (part : List ℕ) × Takes old new part × P part

-- no record stands whole at the front
abbrev pub NoRecord : ByteOrder → List ℕ → Type 0
NoRecord order rest = (packet : Packet) (more : List ℕ) → Fits packet → rest ≡ spelling order packet ++ more → ⊥

-- the octets of the header, where it was not read yet, and the format that it tells or told
abbrev pub BeginsWith : Option Format → Format → List ℕ → Type 0
BeginsWith None format header = IsHeader format header
BeginsWith (Some known) format header = (format ≡ known) × (header ≡ [])

-- a frame, and the octets that stand for it in the caller's block
abbrev pub shown : Frame → List ℕ → Captured
shown frame buf = record { at_us = frame.at_us; link_type = frame.link_type; octets = take frame.length buf }

-- the header, where it was not read yet, and a record were read; this is the record's frame
pub record GivesFrame (old new : ReaderState) (given : Captured) : Type 0 where
  pub format : Format
  pub header : List ℕ
  pub packet : Packet
  pub begins : BeginsWith old.format format header
  pub fits : Fits packet
  pub takes : Takes old.remaining new.remaining (header ++ spelling format.order packet)
  pub same : given ≡ frame_of format packet
  pub known : new.format ≡ Some format
  pub place : new.at ≡ old.at + (16 + length packet.octets)

-- the header was read, where it was not read yet, and nothing is left
pub record Ends (old new : ReaderState) : Type 0 where
  pub format : Format
  pub header : List ℕ
  pub begins : BeginsWith old.format format header
  pub takes : Takes old.remaining new.remaining header
  pub empty : IsEmpty new.remaining

-- a test fails of these octets: of the header, or of what stands at the next record's offset
pub record IsBadRecord (known : Option Format) (octets : List ℕ) (kind : PcapKind) (place : ℕ) : Type 0 where
  pub format : Format
  pub header : List ℕ
  pub rest : List ℕ
  pub begins : BeginsWith known format header
  pub whole : octets ≡ header ++ rest
  pub some : 0 < length rest
  pub fails : fault_at format.order place rest ≡ Some kind

-- the same of either
abbrev pub IsBadAt : Option Format → ℕ → List ℕ → PcapKind → ℕ → Type 0
IsBadAt known at octets kind place =
    ((known ≡ None) × (place ≡ 0) × (fault_of_header (take 24 octets) ≡ Some kind))
    ⊎ ((place ≡ at) × IsBadRecord known octets kind place)

-- what was read before a fault is no whole header, or the header where it was not read yet and no whole record
abbrev pub IsUnfinished : Option Format → List ℕ → Type 0
IsUnfinished known part =
    ((known ≡ None) × (length part < 24))
    ⊎ ((format : Format) × (header : List ℕ) × (rest : List ℕ)
    × BeginsWith known format header × (part ≡ header ++ rest) × NoRecord format.order rest)

-- what `next` answers: the end, a frame, or why there is none and where
abbrev pub ReadsNext : ReaderState → ReaderState → List ℕ → Result (Option Frame) PcapBad → Type 0
ReadsNext old new buf (Ok None) = Ends old new
ReadsNext old new buf (Ok (Some frame)) = GivesFrame old new (shown frame buf)
ReadsNext old new buf (Err (Bad kind place)) =
    IfSome old.remaining (λ octets. IsBadAt old.format old.at octets kind place)
ReadsNext old new buf (Err ReadFault) = IsCutShort old.remaining new.remaining (IsUnfinished old.format)

-- a reader is spent after all but a frame
abbrev pub spent_by : Result (Option Frame) PcapBad → Bool
spent_by (Ok (Some frame)) = false
spent_by (Ok None) = true
spent_by (Err bad) = true
