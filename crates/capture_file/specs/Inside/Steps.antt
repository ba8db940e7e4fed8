-- What the steps of a reader answer, by the octets that remained and that remain now, where those are told.
use Rattle.std.specs.Prelude.{◌≡◌, ◌≢◌, ℕ, ◌+◌, ◌^◌, ◌<◌, ◌≤◌, List, [], length, take, None, Some, Result, Ok, Err}
use Rattle.link_channels.specs.declared.bounds.TheConstants.{MAX_LINKS}
use Rattle.link_channels.specs.declared.bounds.TheConstants.{MAX_DATAGRAM}
use Rattle.std.specs.Prelude.{IfSome}
use Rattle.std.specs.declared.option.Option.{Option}
use Rattle.outside_io.specs.Told.{Takes, IsEmpty}
use Rattle.capture_file.specs.Capture.{magic, Fits, NoRecord, spelling}
use Rattle.capture_file.specs.Tests.{length_said, fault_of_head, fault_at}
use Rattle.capture_file.specs.Heads.{head_octets, record_of}
use Rattle.capture_file.specs.Reading.{IsCutShort, offset_at, name_at}
use Rattle.capture_file.specs.declared.head.Head.{Head}
use Rattle.capture_file.specs.declared.reader.CapKind.TheVariants.{Magic, Truncated}
use Rattle.capture_file.specs.declared.reader.CapBad.{CapBad}
use Rattle.capture_file.specs.declared.reader.CapBad.TheVariants.{Bad, ReadFault}

-- the name was read, or it does not stand there
abbrev pub ReadsName : Option (List ℕ) → Option (List ℕ) → Result Unit CapBad → Type 0
ReadsName old new (Ok x) = Takes old new magic
ReadsName old new (Err (Bad kind place)) = (kind ≡ Magic) × (place ≡ 0) × IfSome old (λ b. take 8 b ≢ magic)
ReadsName old new (Err ReadFault) = IsCutShort old new (λ part. length part < 8)

-- the twelve octets of a record's head were read, or nothing is left, or a test of them fails
abbrev pub ReadsHead : ℕ → Option (List ℕ) → Option (List ℕ) → Result (Option Head) CapBad → Type 0
ReadsHead at old new (Ok None) = Takes old new [] × IsEmpty new
ReadsHead at old new (Ok (Some head)) =
    ((head.link < MAX_LINKS) × (head.length ≤ MAX_DATAGRAM) × (head.us < 2 ^ 64) × (at + 12 + head.length ≤ 2 ^ 40))
    × (fault_of_head at (head_octets head) ≡ None) × (length_said (head_octets head) ≡ head.length)
    × Takes old new (head_octets head)
ReadsHead at old new (Err (Bad kind place)) =
    (place ≡ at) × IfSome old (λ b. (0 < length b) × (fault_of_head at (take 12 b) ≡ Some kind))
ReadsHead at old new (Err ReadFault) = IsCutShort old new (λ part. length part < 12)

-- a record's octets were read, or fewer are left
abbrev pub ReadsBody : ℕ → ℕ → Option (List ℕ) → Option (List ℕ) → List ℕ → Result Unit CapBad → Type 0
ReadsBody at size old new buf (Ok x) = Takes old new buf
ReadsBody at size old new buf (Err (Bad kind place)) =
    (kind ≡ Truncated) × (place ≡ at) × IfSome old (λ b. length b < size)
ReadsBody at size old new buf (Err ReadFault) = IsCutShort old new (λ part. length part < size)

-- the name was read where it was not yet
abbrev pub Enters : ℕ → Option (List ℕ) → Option (List ℕ) → Result ℕ CapBad → Type 0
Enters at old new (Ok place) = (place ≡ offset_at at) × Takes old new (name_at at)
Enters at old new (Err (Bad kind place)) = (at ≡ 0) × (kind ≡ Magic) × (place ≡ 0) × IfSome old (λ b. take 8 b ≢ magic)
Enters at old new (Err ReadFault) = (at ≡ 0) × IsCutShort old new (λ part. length part < 8)

-- the record at this offset was read, or nothing is left, or a test of what stands there fails
abbrev pub ReadsRecord : ℕ → Option (List ℕ) → Option (List ℕ) → List ℕ → Result (Option Head) CapBad → Type 0
ReadsRecord at old new buf (Ok None) = Takes old new [] × IsEmpty new
ReadsRecord at old new buf (Ok (Some head)) =
    Fits (record_of head (take head.length buf)) × Takes old new (spelling (record_of head (take head.length buf)))
ReadsRecord at old new buf (Err (Bad kind place)) =
    (place ≡ at) × IfSome old (λ rest. (0 < length rest) × (fault_at place rest ≡ Some kind))
ReadsRecord at old new buf (Err ReadFault) = IsCutShort old new NoRecord
