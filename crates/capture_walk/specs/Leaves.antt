-- What a walk over the records of a file leaves, by how it ended. `so_far` is what the visitor writes while records
-- come, and `whole` what it has written after the end. Of a source it says what was read from the front; `ahead` is how
-- many octets may have been read beside that, ahead of need.
use Rattle.std.specs.Prelude.{◌⊎◌, ◌^◌, ◌≤◌, ℕ, List, [], ◌∷◌, ◌++◌, length, IfSome, Option, Result, Ok, Err, ◌≡◌}
use Rattle.outside_io.specs.Told.{Passage, Appends, AppendsBetween, IsReadTo, IsEmpty}
use Rattle.capture_file.specs.Capture.{Record}
use Rattle.capture_file.specs.declared.reader.CapKind.TheVariants as kinds
use Rattle.capture_file.specs.declared.reader.CapBad.{CapBad}
use Rattle.capture_file.specs.declared.reader.CapBad.TheVariants.{Bad, ReadFault}
use Rattle.pcap_file.specs.declared.bad.PcapKind.TheVariants as pcap_kinds
use Rattle.pcap_file.specs.declared.bad.PcapBad.{PcapBad}
use Rattle.pcap_file.specs.declared.bad.PcapBad.TheVariants as pcaps
use Rattle.capture_walk.specs.Form.{Form, IsFile, Fronts, IsBadCapture, IsBadPcap, IsTooLong}
use Rattle.capture_walk.specs.declared.walk_bad.WalkBad.{WalkBad}
use Rattle.capture_walk.specs.declared.walk_bad.WalkBad.TheVariants as bads

-- ---- what was read

-- of a source that had these octets, those were read that are a file with these records, and none behind them
pub record HasGiven (form : Form) (ahead : ℕ) (rs : List Record) (b : List ℕ) (left : Option (List ℕ)) : Type 0 where
  pub octets : List ℕ
  pub file : IsFile form rs octets
  pub read : IsReadTo ahead octets b left

-- of these octets these whole records were read, and then what ends a walk so. Want of memory and a failed write are no
-- end of a file
abbrev pub EndsAfter : Form → ℕ → List ℕ → Option (List ℕ) → List Record → Result Unit WalkBad → Type 0
EndsAfter form ahead b left done (Ok x) = IsEmpty left × IsFile form done b × (length b ≤ 2 ^ 40)
EndsAfter form ahead b left done (Err (bads.BadCapture kind at)) = IsBadCapture form done b kind at
EndsAfter form ahead b left done (Err (bads.BadPcap kind at)) = IsBadPcap form done b kind at
EndsAfter form ahead b left done (Err bads.TooLong) = IsTooLong form done b
EndsAfter form ahead b left done (Err bads.ReadFault) =
    (read : List ℕ) × IsReadTo ahead read b left × Fronts form done read
EndsAfter form ahead b left done (Err bads.WriteFault) = ⊥
EndsAfter form ahead b left done (Err bads.Memory) = ⊥

-- ---- what a walk leaves

-- The write of a record failed. It is the last that was read: what is written of those before stands in the sink, and
-- behind it a front part of what this one adds.
pub record FailsAtRecord (form : Form) (so_far : List Record → List ℕ) (ahead : ℕ) (b : List ℕ)
    (p : Passage) : Type 0 where
  pub done : List Record
  pub last : Record
  pub read : HasGiven form ahead (done ++ last ∷ []) b p.left
  pub written : AppendsBetween p.held p.holds (so_far done) (so_far (done ++ last ∷ []))

-- The write of the end failed. What is written of the records stands in the sink, and behind it a front part of what
-- the end adds.
pub record FailsAtEnd (form : Form) (so_far whole : List Record → List ℕ) (ahead : ℕ) (b : List ℕ)
    (p : Passage) : Type 0 where
  pub done : List Record
  pub end : Result Unit WalkBad
  pub ended : EndsAfter form ahead b p.left done end
  pub written : AppendsBetween p.held p.holds (so_far done) (whole done)

-- Memory was refused for a record. It is the last that was read, and what is written of those before stands in the
-- sink.
pub record WantsMemory (form : Form) (so_far : List Record → List ℕ) (ahead : ℕ) (b : List ℕ)
    (p : Passage) : Type 0 where
  pub done : List Record
  pub last : Record
  pub read : HasGiven form ahead (done ++ last ∷ []) b p.left
  pub written : Appends p.held p.holds (so_far done)

-- nothing was read, and nothing was written
pub record IsUnbegun (ahead : ℕ) (b : List ℕ) (p : Passage) : Type 0 where
  pub read : IsReadTo ahead [] b p.left
  pub written : p.holds ≡ p.held

-- What the end of a walk says of what a source, where it tells, had and has left, and of what a sink held and holds.
-- But where a write failed or memory was refused, the sink has gained what is written of the whole records and the end.
abbrev pub Leaves : Form → (List Record → List ℕ) → (List Record → List ℕ) → ℕ → Passage → Result Unit WalkBad → Type 0
Leaves form so_far whole ahead p (Err bads.WriteFault) =
    IfSome p.had (λ b. FailsAtRecord form so_far ahead b p ⊎ FailsAtEnd form so_far whole ahead b p)
Leaves form so_far whole ahead p (Err bads.Memory) =
    IfSome p.had (λ b. WantsMemory form so_far ahead b p ⊎ IsUnbegun ahead b p)
Leaves form so_far whole ahead p end =
    IfSome p.had (λ b. (done : List Record) × EndsAfter form 0 b p.left done end × Appends p.held p.holds (whole done))

-- ---- what a visitor took

-- P holds where a walk brought its visitor the end: no write failed, and no memory was refused
abbrev pub IfBrought : Result Unit WalkBad → Type 0 → Type 0
IfBrought (Ok x) P = P
IfBrought (Err (bads.BadCapture kind at)) P = P
IfBrought (Err (bads.BadPcap kind at)) P = P
IfBrought (Err bads.TooLong) P = P
IfBrought (Err bads.ReadFault) P = P
IfBrought (Err bads.WriteFault) P = Unit {0}
IfBrought (Err bads.Memory) P = Unit {0}

-- some records and then the end were seen; where the source tells, they are the whole records that were read of it
-- before what ends a walk so
pub record Brought (form : Form) (had left : Option (List ℕ)) (has_seen : List Record → Type 0)
    (end : Result Unit WalkBad) : Type 0 where
  pub done : List Record
  pub seen : has_seen done
  pub read : IfSome had (λ b. EndsAfter form 0 b left done end)

-- ----

-- what remained of a source and remains, and what a sink held and holds
abbrev pub passage : Option (List ℕ) → Option (List ℕ) → Option (List ℕ) → Option (List ℕ) → Passage
passage had left held holds = record { had = had; left = left; held = held; holds = holds }

-- how a walk ends by the error of a capture file's reader
abbrev pub walk_bad_of : CapBad → WalkBad
walk_bad_of (Bad kinds.TooLong at) = bads.TooLong
walk_bad_of (Bad kind at) = bads.BadCapture kind at
walk_bad_of ReadFault = bads.ReadFault

-- and by that of a pcap file's reader
abbrev pub walk_bad_of_pcap : PcapBad → WalkBad
walk_bad_of_pcap (pcaps.Bad pcap_kinds.TooLong at) = bads.TooLong
walk_bad_of_pcap (pcaps.Bad kind at) = bads.BadPcap kind at
walk_bad_of_pcap pcaps.ReadFault = bads.ReadFault
