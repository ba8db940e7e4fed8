-- What a split leaves of its outputs, and what it answers.
use Rattle.std.specs.Prelude.{◌≡◌, ◌≤◌, ◌⊎◌, ℕ, List, [], length, slice_get, Option, Some, Result, Err, IsErrOf}
use Rattle.std.specs.Prelude.{vec_capacity, vec_len}
use Rattle.std.specs.List.{All}
use Rattle.outside_io.specs.Causes.{HasReadCause, Rose, fault_by}
use Rattle.outside_io.specs.Told.{Appends, AppendsPart}
use Rattle.capture_file.specs.Capture.{Record}
use Rattle.capture_walk.specs.Causes.{walk_fault}
use Rattle.capture_walk.specs.Form.{Form}
use Rattle.capture_walk.specs.Leaves.{Brought}
use Rattle.capture_walk.specs.declared.walk_bad.WalkBad.{WalkBad}
use Rattle.capture_walk.specs.declared.walk_bad.WalkBad.TheVariants as walks
use Rattle.receiver_rules.specs.declared.limits.Limits.{Limits}
use Rattle.rist_wire.specs.declared.session.Session.{Session}
use Rattle.rist_wire.specs.Among.{session_at}
use Rattle.rist_replay.specs.Replay.{replayed}
use Rattle.rist_split.specs.Split.{IsFresh}
use Rattle.rist_split.specs.declared.made.SplitMemory.{SplitMemory}

-- memory for a split into so many outputs, whose receivers have these limits and were told nothing
pub record IsMade {K : Type 0} (limits : Limits) (count : ℕ) (made : SplitMemory K) : Type 0 where
  pub each : All (IsFresh limits) made.receivers.items
  pub many : length made.receivers.items ≡ count
  pub came : vec_len made.came ≡ count
  pub none : made.flows.items ≡ []
  pub room : count ≤ vec_capacity made.flows

-- an output gained the whole, and no write to it failed
pub record IsWhole (whole : List ℕ) (held holds : Option (List ℕ)) (before now : ℕ) : Type 0 where
  pub written : Appends held holds whole
  pub unfailed : now ≡ before

-- a write to an output failed, and it gained a front part of the whole
pub record IsCut (whole : List ℕ) (held holds : Option (List ℕ)) (before now : ℕ) : Type 0 where
  pub written : AppendsPart held holds whole
  pub failed : Rose before now

-- What is written in all to an output is what a replay of these records writes in the session at its place.
module _ {K : Type 0} (contents : K → Option (List ℕ)) (faults : K → ℕ) (ports : List ℕ) (session : Session)
    (limits : Limits) (old new : List K) (rs : List Record) where
  -- P holds of the output at a place, whose sink was this and is that
  abbrev pub Of : (List ℕ → Option (List ℕ) → Option (List ℕ) → ℕ → ℕ → Type 0) → ℕ → K → K → Type 0
  Of P v sink filled = P (replayed (session_at ports v session) limits rs) (contents sink) (contents filled)
      (faults sink) (faults filled)

  -- each output is whole
  abbrev pub AreWhole : Type 0
  AreWhole = (v : ℕ) (sink filled : K) → slice_get old v ≡ Some sink → slice_get new v ≡ Some filled
      → Of IsWhole v sink filled

  -- each is whole, or was cut off
  abbrev pub AreOutputs : Type 0
  AreOutputs = (v : ℕ) (sink filled : K) → slice_get old v ≡ Some sink → slice_get new v ≡ Some filled
      → Of IsWhole v sink filled ⊎ Of IsCut v sink filled

  -- some output was cut off
  pub record SomeIsCut : Type 0 where
    pub place : ℕ
    pub sink : K
    pub filled : K
    pub was : slice_get old place ≡ Some sink
    pub is : slice_get new place ≡ Some filled
    pub cut : Of IsCut place sink filled

  -- each is whole, and the answer is how the records ended; or some output was cut off, and the answer is that a
  -- write failed
  pub data IsAnswered (end result : Result Unit WalkBad) : Type 0 where
    AllWhole : AreWhole → result ≡ end → IsAnswered end result
    SomeCut : AreOutputs → SomeIsCut → result ≡ Err walks.WriteFault → IsAnswered end result

-- Of a file of this form, with octets read ahead of need and counts of failed reads before and after, records were
-- split into these sinks, in the session but for its port, and it was answered so.
pub record SplitsInto {K : Type 0} (form : Form) (had left : Option (List ℕ)) (ahead : List ℕ)
    (reads_were reads_are : ℕ) (contents : K → Option (List ℕ)) (faults : K → ℕ) (ports : List ℕ) (session : Session)
    (limits : Limits) (old new : List K) (result : Result Unit WalkBad) : Type 0 where
  -- how the records ended: no write failed, and no memory was refused
  pub end : Result Unit WalkBad
  pub unfailed : end ≡ Err walks.WriteFault → ⊥
  pub unrefused : end ≡ Err walks.Memory → ⊥
  pub brought : Brought form had left (λ rs. IsAnswered contents faults ports session limits old new rs end result) end
  pub read : HasReadCause (fault_by walk_fault end) reads_were reads_are
  pub all_read : IsErrOf end walks.ReadFault → ahead ≡ []
