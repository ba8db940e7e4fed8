-- A fault is answered exactly where the count of faults rose.
use Rattle.std.specs.Prelude.{◌≡◌, ℕ, ◌+◌, ◌-◌, ◌^◌, ◌≤◌, min, max, Bool, true, false, Result, Ok, Err}

-- the count went up, or stands at its greatest value
abbrev pub Rose : ℕ → ℕ → Type 0
Rose before now = max before (min (before + 1) (2 ^ 64 - 1)) ≤ now

-- the count rose where a call failed, and stands as it stood where none did
abbrev pub RoseWhere : Bool → ℕ → ℕ → Type 0
RoseWhere true before now = Rose before now
RoseWhere false before now = now ≡ before

-- a call failed
abbrev pub has_failed : {T E : Type 0} → Result T E → Bool
has_failed (Ok x) = false
has_failed (Err e) = true

-- the count rose exactly where the call failed
abbrev pub HasCause : {T E : Type 0} → ℕ → ℕ → Result T E → Type 0
HasCause before now result = RoseWhere (has_failed result) before now

-- which call it is that failed, by an answer: none, a read, a write, or one that opens
pub data Fault : Type 0 where
  NoFault : Fault
  Read : Fault
  Write : Fault
  Open : Fault

-- that of a result: none where it is good, and else what its error says
abbrev pub fault_by : {T E : Type 0} → (E → Fault) → Result T E → Fault
fault_by fault_in (Ok x) = NoFault
fault_by fault_in (Err e) = fault_in e

-- The count of a source: it rose where a read failed, and stands where none did. Where a write fails after a read has
-- failed, the write is answered.
abbrev pub HasReadCause : Fault → ℕ → ℕ → Type 0
HasReadCause NoFault before now = now ≡ before
HasReadCause Read before now = Rose before now
HasReadCause Write before now = before ≤ now
HasReadCause Open before now = now ≡ before

-- the count of a sink: it rose exactly where a write failed
abbrev pub HasWriteCause : Fault → ℕ → ℕ → Type 0
HasWriteCause NoFault before now = now ≡ before
HasWriteCause Read before now = now ≡ before
HasWriteCause Write before now = Rose before now
HasWriteCause Open before now = now ≡ before

-- the count of a host: it rose exactly where something could not be opened
abbrev pub HasOpenCause : Fault → ℕ → ℕ → Type 0
HasOpenCause NoFault before now = now ≡ before
HasOpenCause Read before now = now ≡ before
HasOpenCause Write before now = now ≡ before
HasOpenCause Open before now = Rose before now
