-- What a command over a source and a sink leaves of its host, and what it answers.
use Rattle.std.specs.Prelude.{◌≡◌, ◌≢◌, ℕ, Bool, IsTrue}
use Rattle.outside_io.specs.Causes.{Rose}
use Rattle.outside_host.specs.Shelf.{Shelf}
use Rattle.rist_words.specs.CommandLine.{CommandLine, Replay, ReplayCommand}
use Rattle.run_files.specs.Complete.{Completes}
use Rattle.run_files.specs.CutOff.{WritesPartReached}
use Rattle.run_files.specs.Ends.{IsFilesEnd}
use Rattle.run_files.specs.Exact.{WritesReached, WritesEpochs, WritesInFront}
use Rattle.run_files.specs.Frame.{KeepsOthers, OpensSourceFirst}
use Rattle.run_parts.specs.Objects.{Tells}
use Rattle.run_files.specs.Ran.{Ran}
use Rattle.run_files.specs.Ready.{IsReady}
use Rattle.run_files.specs.Untouched.{LeavesAtMemory, Untouched}
use Rattle.run_parts.specs.declared.status.Status.{Status}
use Rattle.run_parts.specs.declared.status.Status.TheVariants as statuses

-- what such a command did to a host that tells, whose count of failed calls stood so before and after
pub record DoesFiles {I O E L C : Type 0} (told : Bool) (tells : Tells I O E) (c : CommandLine)
    (faults_were faults_are : ℕ) (old new : Shelf I O E L C) (status : Status) : Type 0 where
  -- a status that is none of the command's never comes
  pub ends : IsFilesEnd c status
  -- it touches only what its line speaks of
  pub others : IsReady told old c → KeepsOthers old new c
  -- the sink is opened only after the source
  pub order : IsTrue told → OpensSourceFirst old new c
  -- every other answer but want of memory is about what the host's objects tell
  pub ran : IsReady told old c → status ≢ statuses.OpenFault → status ≢ statuses.Memory → Ran tells old new c status
  -- where nothing can be opened, all comes back as it was
  pub closed : IsTrue told → status ≡ statuses.OpenFault → Untouched old new c
  -- where memory is refused, nothing was touched; a showing may have written the lines of some records before
  pub memory : IsReady told old c → status ≡ statuses.Memory → LeavesAtMemory tells old new c
  -- what a replay leaves is the exact release set, in sent numbers
  pub reached : (r : ReplayCommand) → c ≡ Replay r → IsTrue told → status ≡ statuses.Done
      → WritesReached tells old new r
  -- where flows restart, what a replay leaves is the exact release set of one epoch after another
  pub epochs : (r : ReplayCommand) → c ≡ Replay r → IsTrue told → status ≡ statuses.Done
      → WritesEpochs tells old new r
  -- however the reading of a capture ended, what a replay leaves is the exact release set of the whole records in front
  pub front : (r : ReplayCommand) → c ≡ Replay r → IsTrue told → status ≢ statuses.OpenFault
      → status ≢ statuses.Memory → status ≢ statuses.WriteFault → WritesInFront tells old new r status
  -- where a write failed, it is a front part of the release set of the whole records that were read
  pub cut : (r : ReplayCommand) → c ≡ Replay r → IsTrue told → status ≡ statuses.WriteFault
      → WritesPartReached tells old new r
  -- where no call fails, a capture, or the source of a packing, is taken to its end
  pub complete : IsReady told old c → (Rose faults_were faults_are → ⊥) → Completes tells old new c status
