-- What a reader answers, by the octets that remained and that remain now, where those are told.
use Rattle.std.specs.Prelude.{◌≡◌, ◌≢◌, ◌⊎◌, ℕ, ◌<◌, List, [], ◌++◌, length, take, None, Some, Result, Ok, Err, IfSome}
use Rattle.std.specs.Prelude.{if◌then◌else◌, ◌==◌, Bool, true, false}
use Rattle.std.specs.declared.option.Option.{Option}
use Rattle.outside_io.specs.Causes.{Fault, NoFault, Read}
use Rattle.outside_io.specs.Told.{Takes, IsEmpty}
use Rattle.capture_file.specs.Capture.{magic, Fits, NoRecord, spelling}
use Rattle.capture_file.specs.Tests.{fault_at}
use Rattle.capture_file.specs.Heads.{record_of}
use Rattle.capture_file.specs.declared.head.Head.{Head}
use Rattle.capture_file.specs.declared.reader.CapKind.TheVariants.{Magic}
use Rattle.capture_file.specs.declared.reader.CapBad.{CapBad}
use Rattle.capture_file.specs.declared.reader.CapBad.TheVariants.{Bad, ReadFault}

-- which call failed, by a reader's error
abbrev pub read_fault : CapBad → Fault
read_fault (Bad kind place) = NoFault
read_fault ReadFault = Read

-- a read failed after this part of what remained, of which this holds
abbrev pub IsCutShort : Option (List ℕ) → Option (List ℕ) → (List ℕ → Type 0) → Type 0
IsCutShort old new P = (part : List ℕ) × Takes old new part × P part

-- the offset of the next record of a reader that stands here: the name stands before the first
abbrev pub offset_at : ℕ → ℕ
offset_at at = if at == 0 then 8 else at

-- the name, where it was not read yet
abbrev pub name_at : ℕ → List ℕ
name_at at = if at == 0 then magic else []

-- a test fails of these octets, which stand at this place: of the name, or of what stands at the next record's offset
abbrev pub IsBadAt : ℕ → List ℕ → CapBad → Type 0
IsBadAt at b (Bad kind place) =
    ((at ≡ 0) × (kind ≡ Magic) × (place ≡ 0) × (take 8 b ≢ magic))
    ⊎ ((place ≡ offset_at at)
    × ((rest : List ℕ) × (b ≡ name_at at ++ rest) × (0 < length rest) × (fault_at place rest ≡ Some kind)))
IsBadAt at b ReadFault = ⊥

-- what was read before a fault is no whole name, or the name where it was not read yet and no whole record
abbrev pub IsUnfinished : ℕ → List ℕ → Type 0
IsUnfinished at part = ((at ≡ 0) × (length part < 8)) ⊎ ((rest : List ℕ) × (part ≡ name_at at ++ rest) × NoRecord rest)

-- what `next` answers: the end, a record, or why there is none and where
abbrev pub ReadsNext : ℕ → Option (List ℕ) → Option (List ℕ) → List ℕ → Result (Option Head) CapBad → Type 0
ReadsNext at old new buf (Ok None) = Takes old new (name_at at) × IsEmpty new
ReadsNext at old new buf (Ok (Some head)) =
    Fits (record_of head (take head.length buf))
    × Takes old new (name_at at ++ spelling (record_of head (take head.length buf)))
ReadsNext at old new buf (Err (Bad kind place)) = IfSome old (λ b. IsBadAt at b (Bad kind place))
ReadsNext at old new buf (Err ReadFault) = IsCutShort old new (IsUnfinished at)

-- a reader is spent after all but a record
abbrev pub spent_by : Result (Option Head) CapBad → Bool
spent_by (Ok (Some head)) = false
spent_by (Ok None) = true
spent_by (Err bad) = true
