-- What the work of a split leaves of its source and its sinks, before they go back to the host.
use Rattle.std.specs.Prelude.{◌≡◌, ◌⊎◌, ℕ, List, slice_get, Option, Some}
use Rattle.outside_io.specs.Causes.{HasReadCause, Rose}
use Rattle.outside_io.specs.Told.{Passage}
use Rattle.capture_walk.specs.Form.{Form}
use Rattle.capture_walk.specs.Leaves.{passage as passed}
use Rattle.rist_words.specs.CommandLine.{ReplayCommand, SplitCommand, replay_at}
use Rattle.run_parts.specs.Causes.{fault_of}
use Rattle.run_split.specs.Splits.{IsFront, IsRecordsEnd}
use Rattle.run_files.specs.Works.{ReplaysAs}
use Rattle.run_parts.specs.declared.status.Status.{Status}
use Rattle.run_parts.specs.declared.status.Status.TheVariants as statuses

-- a sink holds a front part of what a replay of a file of this form leaves in it
abbrev pub ReplaysPartAs : Form → ReplayCommand → Passage → Status → Type 0
ReplaysPartAs form c p status = (whole : Option (List ℕ)) × ReplaysAs form c (record p { holds = whole }) status
    × IsFront p.holds whole

-- what a replay leaves in the sink of an output, with a count of faults that stands
pub record LeavesWhole (form : Form) (c : ReplayCommand) (p : Passage) (before now : ℕ) (ended : Status) : Type 0 where
  pub work : ReplaysAs form c p ended
  pub unfailed : now ≡ before

-- a write failed, and the sink holds a front part of that
pub record LeavesPart (form : Form) (c : ReplayCommand) (p : Passage) (before now : ℕ) (ended : Status) : Type 0 where
  pub work : ReplaysPartAs form c p ended
  pub failed : Rose before now

-- What is left of these sinks by a split of a source that had these octets and has those left.
module _ {K : Type 0} (form : Form) (c : SplitCommand) (contents : K → Option (List ℕ)) (faults : K → ℕ)
    (had left : Option (List ℕ)) (old new : List K) where
  -- P holds of the output at a place, whose sink was this and is that
  abbrev pub Of : (Form → ReplayCommand → Passage → ℕ → ℕ → Status → Type 0) → Status → ℕ → K → K → Type 0
  Of P ended v sink filled = P form (replay_at c v) (passed had left (contents sink) (contents filled)) (faults sink)
      (faults filled) ended

  -- some output was cut off
  pub record SomePart (ended : Status) : Type 0 where
    pub place : ℕ
    pub sink : K
    pub filled : K
    pub was : slice_get old place ≡ Some sink
    pub is : slice_get new place ≡ Some filled
    pub part : Of LeavesPart ended place sink filled

  -- each output is whole, and the answer is how the records ended; or some was cut off, and the answer is that a
  -- write failed
  pub data IsAnswered (ended status : Status) : Type 0 where
    AllWhole : ((v : ℕ) (sink filled : K) → slice_get old v ≡ Some sink → slice_get new v ≡ Some filled
        → Of LeavesWhole ended v sink filled) → status ≡ ended
        → IsAnswered ended status
    SomeCut : ((v : ℕ) (sink filled : K) → slice_get old v ≡ Some sink → slice_get new v ≡ Some filled
        → Of LeavesWhole ended v sink filled ⊎ Of LeavesPart ended v sink filled)
        → SomePart ended → status ≡ statuses.WriteFault → IsAnswered ended status

-- the records of a source were split into these sinks, with counts of failed reads before and after, and the answer
-- is this status
pub record SplitsAs {K : Type 0} (form : Form) (c : SplitCommand) (contents : K → Option (List ℕ)) (faults : K → ℕ)
    (had left : Option (List ℕ)) (reads_were reads_are : ℕ) (old new : List K) (status : Status) : Type 0 where
  pub ended : Status
  pub records : IsRecordsEnd ended
  pub read : HasReadCause (fault_of ended) reads_were reads_are
  pub answered : IsAnswered form c contents faults had left old new ended status
