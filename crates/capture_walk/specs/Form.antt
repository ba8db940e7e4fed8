-- What holds the records of a walk: a capture file, or a pcap file whose frames carry them.
use Rattle.std.specs.Prelude.{◌≡◌, ◌≢◌, ◌⊎◌, ℕ, List, [], ◌++◌, map, take, Some}
use mathlib.Core.Logic.{inl, inr}
use Rattle.link_channels.specs.declared.profile.Profile.{Profile}
use Rattle.capture_file.specs.Capture.{Record, IsCapture, IsFront, magic}
use Rattle.capture_file.specs.Tests.{BadAt}
use Rattle.capture_file.specs.declared.reader.CapKind.{CapKind}
use Rattle.capture_file.specs.declared.reader.CapKind.TheVariants as kinds
use Rattle.pcap_file.specs.Pcap.{Packet, Captured, IsPcap, HasFrames, frame_of}
use Rattle.pcap_file.specs.Converted.{converted}
use Rattle.pcap_file.specs.Reading.{NoRecord}
use Rattle.pcap_file.specs.Tests.{fault_of_header, BadAt as PcapBadAt}
use Rattle.pcap_file.specs.declared.format.Format.{Format}
use Rattle.pcap_file.specs.declared.bad.PcapKind.{PcapKind}
use Rattle.pcap_file.specs.declared.bad.PcapKind.TheVariants as pcap_kinds

-- a capture file; or a pcap file, whose records are the datagrams that its frames carry to this UDP port in this
-- profile
pub data Form : Type 0 where
  Capture : Form
  Pcap : Profile → ℕ → Form

-- the octets are a file of this form with these records
abbrev pub IsFile : Form → List Record → List ℕ → Type 0
IsFile Capture rs b = IsCapture rs b
IsFile (Pcap profile port) rs b = (frames : List Captured) × HasFrames frames b × (rs ≡ converted frames profile port)

-- ---- whole records at the front

-- these are the records of the whole packet records at the front of a pcap file's octets
pub record IsPcapFront (profile : Profile) (port : ℕ) (rs : List Record) (b : List ℕ) : Type 0 where
  pub format : Format
  pub packets : List Packet
  pub front : List ℕ
  pub rest : List ℕ
  pub file : IsPcap format packets front
  pub whole : b ≡ front ++ rest
  pub no_more : NoRecord format.order rest
  pub same : rs ≡ converted (map (frame_of format) packets) profile port

-- a test of a pcap file's header fails of the octets
abbrev pub HasNoHeader : List ℕ → Type 0
HasNoHeader b = (kind : PcapKind) × (fault_of_header (take 24 b) ≡ Some kind)

-- these are the whole records at the front of octets that may lack the name or the header
abbrev pub Fronts : Form → List Record → List ℕ → Type 0
Fronts Capture rs b = IsFront rs b ⊎ ((rs ≡ []) × (take 8 b ≢ magic))
Fronts (Pcap profile port) rs b = IsPcapFront profile port rs b ⊎ ((rs ≡ []) × HasNoHeader b)

-- ---- where a test fails

-- the whole records before the place of a fault
abbrev pub records_before : {b : List ℕ} {kind : CapKind} {at : ℕ} → BadAt b kind at → List Record
records_before (inl name) = []
records_before (inr fault) = fault.done

-- the frames of the whole packet records before the place of a fault
abbrev pub frames_before : {b : List ℕ} {kind : PcapKind} {at : ℕ} → PcapBadAt b kind at → List Captured
frames_before (inl header) = []
frames_before (inr fault) = map (frame_of fault.format) fault.done

-- this test, but that of the greatest offset, fails at this offset of a capture file, behind these records
abbrev pub IsBadCapture : Form → List Record → List ℕ → CapKind → ℕ → Type 0
IsBadCapture Capture done b kind at = (kind ≢ kinds.TooLong) × BadAt b kind at × Fronts Capture done b
IsBadCapture (Pcap profile port) done b kind at = ⊥

-- the same of a pcap file
abbrev pub IsBadPcap : Form → List Record → List ℕ → PcapKind → ℕ → Type 0
IsBadPcap Capture done b kind at = ⊥
IsBadPcap (Pcap profile port) done b kind at =
    (kind ≢ pcap_kinds.TooLong) × PcapBadAt b kind at × Fronts (Pcap profile port) done b

-- a record behind these ends past the greatest offset
abbrev pub IsTooLong : Form → List Record → List ℕ → Type 0
IsTooLong Capture done b = (at : ℕ) × (bad : BadAt b kinds.TooLong at) × (done ≡ records_before bad)
IsTooLong (Pcap profile port) done b =
    (at : ℕ) × (bad : PcapBadAt b pcap_kinds.TooLong at) × (done ≡ converted (frames_before bad) profile port)
