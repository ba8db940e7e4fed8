-- What a reader of a pcap file's datagrams has read, and what a turn of it comes to.
use Rattle.std.specs.Prelude.{◌≡◌, ◌^◌, ◌+◌, ◌≤◌, ℕ, List, [], ◌∷◌, ◌++◌, length, map, flat_map, All, Bool, true, false}
use Rattle.std.specs.Prelude.{Err}
use Rattle.std.specs.declared.option.Option.{Option}
use Rattle.std.specs.declared.option.Option.TheVariants.{None, Some}
use Rattle.outside_io.specs.Causes.{Fault, NoFault}
use Rattle.outside_io.specs.Told.{Takes}
use Rattle.capture_file.specs.Capture.{Record}
use Rattle.capture_file.specs.Heads.{record_of}
use Rattle.capture_file.specs.declared.head.Head.{Head}
use Rattle.pcap_file.specs.Pcap.{Packet, Fits, IsHeader, Captured, spelling, frame_of}
use Rattle.pcap_file.specs.Converted.{converted, datagram_of, records_at}
use Rattle.pcap_file.specs.Reader.{ReaderState}
use Rattle.pcap_file.specs.Reading.{GivesFrame, Ends, ReadsNext}
use Rattle.pcap_file.specs.declared.format.Format.{Format}
use Rattle.pcap_file.specs.declared.bad.PcapBad.{PcapBad}
use Rattle.capture_walk.specs.Causes.{walk_fault}
use Rattle.capture_walk.specs.Port.{PortState}
use Rattle.capture_walk.specs.Leaves.{walk_bad_of_pcap}
use Rattle.capture_walk.specs.declared.port.Turn.{Turn}
use Rattle.capture_walk.specs.declared.port.Turn.TheVariants as turns
use Rattle.capture_walk.specs.declared.walk_bad.WalkBad.{WalkBad}

-- of the octets that were told first, a reader at this offset has read a header of this format and the records of these
-- frames, and then `more`
pub record IsTaken (format : Format) (at : ℕ) (first remaining : Option (List ℕ)) (more : List ℕ)
    (frames : List Captured) : Type 0 where
  pub header : List ℕ
  pub packets : List Packet
  pub is_header : IsHeader format header
  pub each : All Fits packets
  pub taken : Takes first remaining ((header ++ flat_map (spelling format.order) packets) ++ more)
  pub place : at ≡ 24 + length (flat_map (spelling format.order) packets)
  pub same : frames ≡ map (frame_of format) packets

-- the same by what the reader knows of the format: nothing where it has read nothing
abbrev pub HasTaken : Option Format → ℕ → Option (List ℕ) → Option (List ℕ) → List Captured → Type 0
HasTaken None at first remaining frames = (at ≡ 24) × Takes first remaining [] × (frames ≡ [])
HasTaken (Some format) at first remaining frames = IsTaken format at first remaining [] frames

-- these records were read, and no others
pub record HasReadPort (first : Option (List ℕ)) (reader : PortState) (done : List Record) : Type 0 where
  pub frames : List Captured
  pub taken : HasTaken reader.frames.format reader.frames.at first reader.frames.remaining frames
  pub bound : reader.frames.at ≤ 2 ^ 40
  pub same : done ≡ converted frames reader.profile reader.port

-- how many octets a record has, if there is a head
abbrev pub length_given : Option Head → ℕ
length_given None = 0
length_given (Some head) = head.length

-- the record of a head and its octets, if there is a head
abbrev pub records_given : Option Head → List ℕ → List Record
records_given None octets = []
records_given (Some head) octets = record_of head octets ∷ []

-- a frame was read, which carries these records
pub record GivesRecords (old new : PortState) (rs : List Record) : Type 0 where
  pub given : Captured
  pub frame : GivesFrame old.frames new.frames given
  pub carried : records_at given.at_us (datagram_of old.profile old.port given.link_type given.octets) ≡ rs
  pub bound : new.frames.at ≤ 2 ^ 40

-- there is no frame, for what a reader of frames answers
pub record IsBadTurn (old new : ReaderState) (bad : WalkBad) : Type 0 where
  pub error : PcapBad
  pub is : bad ≡ walk_bad_of_pcap error
  pub block : List ℕ
  pub reads : ReadsNext old new block (Err error)

-- what a turn came to
abbrev pub IsTurn : PortState → PortState → List ℕ → Turn → Type 0
IsTurn old new octets (turns.Frame given) = GivesRecords old new (records_given given octets)
IsTurn old new octets turns.End = Ends old.frames new.frames
IsTurn old new octets (turns.Bad bad) = IsBadTurn old.frames new.frames bad

-- P holds of the head that a turn gives, if it gives one
abbrev pub IfGiven : Turn → (Head → Type 0) → Type 0
IfGiven (turns.Frame None) P = Unit {0}
IfGiven (turns.Frame (Some head)) P = P head
IfGiven turns.End P = Unit {0}
IfGiven (turns.Bad bad) P = Unit {0}

-- P holds where there was a frame
abbrev pub IfFrame : Turn → Type 0 → Type 0
IfFrame (turns.Frame given) P = P
IfFrame turns.End P = Unit {0}
IfFrame (turns.Bad bad) P = Unit {0}

-- a reader is spent after all but a frame
abbrev pub spent_after : Turn → Bool
spent_after (turns.Frame given) = false
spent_after turns.End = true
spent_after (turns.Bad bad) = true

-- which call failed
abbrev pub turn_fault : Turn → Fault
turn_fault (turns.Frame given) = NoFault
turn_fault turns.End = NoFault
turn_fault (turns.Bad bad) = walk_fault bad
