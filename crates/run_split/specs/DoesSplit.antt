-- What a split leaves of its host, and what it answers.
use Rattle.std.specs.Prelude.{◌≡◌, ◌≢◌, ◌⊎◌, ◌<◌, ℕ, List, length, Bool, Some, IsTrue}
use Rattle.outside_io.specs.Causes.{Rose}
use Rattle.outside_host.specs.Shelf.{Shelf, Stays}
use Rattle.outside_host.specs.declared.host.Place.TheVariants.{Here, Back}
use Rattle.outside_host.specs.Sinks.{AreOpenedInOrder, StayOthers}
use Rattle.rist_words.specs.CommandLine.{SplitCommand, replay_at}
use Rattle.run_parts.specs.Causes.{CanRefuse}
use Rattle.run_files.specs.Complete.{IsWholeFile}
use Rattle.run_files.specs.Exact.{WritesEpochs, WritesReached}
use Rattle.run_parts.specs.Objects.{Tells}
use Rattle.run_parts.specs.Places.{CameBack, KeepsLive}
use Rattle.run_split.specs.Splits.{Splits, Unsplit, output_name}
use Rattle.run_files.specs.Works.{form_of}
use Rattle.run_parts.specs.declared.status.Status.{Status}
use Rattle.run_parts.specs.declared.status.Status.TheVariants as statuses

-- a status that a split can have: no link, no key and no kept step is in it
abbrev pub IsSplitEnd : Status → Type 0
IsSplitEnd statuses.Done = Unit {0}
IsSplitEnd statuses.Memory = Unit {0}
IsSplitEnd statuses.Usage = ⊥
IsSplitEnd statuses.OpenFault = Unit {0}
IsSplitEnd statuses.ReadFault = Unit {0}
IsSplitEnd statuses.WriteFault = Unit {0}
IsSplitEnd (statuses.BadCapture kind at) = Unit {0}
IsSplitEnd statuses.EntropyFault = ⊥
IsSplitEnd statuses.TooLong = Unit {0}
IsSplitEnd statuses.LinksDown = ⊥
IsSplitEnd statuses.TraceFull = ⊥
IsSplitEnd (statuses.Torn tear) = ⊥
IsSplitEnd statuses.Spent = ⊥
IsSplitEnd statuses.TurnsSpent = ⊥
IsSplitEnd (statuses.BadPcap kind at) = Unit {0}

-- what a split doesn't speak of stands as it stood, and what it speaks of came back: its source, and the sink of
-- each output
pub record KeepsAroundSplit {I O E L C : Type 0} (old new : Shelf I O E L C) (c : SplitCommand) : Type 0 where
  pub sources : (n : List ℕ) → n ≢ c.capture → new.sources n ≡ old.sources n
  pub source : CameBack (old.sources c.capture) (new.sources c.capture)
  pub sinks : StayOthers old.sinks new.sinks c.names
  pub outputs : (v : ℕ) → v < length c.ports → CameBack (old.sinks (output_name c v)) (new.sinks (output_name c v))
  pub entropies : Stays old.entropies new.entropies
  pub live : KeepsLive old new

-- no sink is opened before the source could be, and each only after those of the outputs before it
pub record OpensInOrder {I O E L C : Type 0} (old new : Shelf I O E L C) (c : SplitCommand) : Type 0 where
  pub after_source : new.sources c.capture ≡ old.sources c.capture → Stays old.sinks new.sinks
  pub after_another : AreOpenedInOrder old.sinks new.sinks c.names

-- no read of the capture and no write to an output failed
pub record NoneFailedIn {I O E L C : Type 0} (tells : Tells I O E) (old new : Shelf I O E L C)
    (c : SplitCommand) : Type 0 where
  pub reads : (source spent : I) → old.sources c.capture ≡ Here source → new.sources c.capture ≡ Back spent
      → Rose (tells.read_faults source) (tells.read_faults spent) → ⊥
  pub writes : (v : ℕ) (sink filled : O) → v < length c.ports → old.sinks (output_name c v) ≡ Here sink
      → new.sinks (output_name c v) ≡ Back filled
      → Rose (tells.write_faults sink) (tells.write_faults filled) → ⊥

-- a split of a whole file in which nothing failed is done, or memory was refused
abbrev pub CompletesSplitting : {I O E L C : Type 0} → Tells I O E → Shelf I O E L C → Shelf I O E L C → SplitCommand
    → Status → Type 0
CompletesSplitting {I} tells old new c status =
    (source : I) (b : List ℕ) → old.sources c.capture ≡ Here source → tells.remaining source ≡ Some b
    → IsWholeFile (form_of c.session c.pcap) b
    → NoneFailedIn tells old new c → (status ≡ statuses.Done) ⊎ (status ≡ statuses.Memory)

-- this split did this to a host, whose count of failed calls stood so before and after
pub record DoesSplit {I O E L C : Type 0} (told : Bool) (tells : Tells I O E) (c : SplitCommand)
    (faults_were faults_are : ℕ) (old new : Shelf I O E L C) (status : Status) : Type 0 where
  pub ends : IsSplitEnd status
  -- each output is as after a replay at its port, but those to which a write failed; or nothing was read and nothing
  -- written
  pub splits : IsTrue told → (CanRefuse status → ⊥) → Splits tells old new c status
  pub unsplit : IsTrue told → CanRefuse status → Unsplit old new c
  -- each output holds the exact release set of its port, in sent numbers
  pub reached : IsTrue told → status ≡ statuses.Done → (v : ℕ) → v < length c.ports
      → WritesReached tells old new (replay_at c v)
  -- where flows restart, each output holds the exact release set of one epoch after another
  pub epochs : IsTrue told → status ≡ statuses.Done → (v : ℕ) → v < length c.ports
      → WritesEpochs tells old new (replay_at c v)
  -- the run touches only what its line speaks of, and opens that in order
  pub around : IsTrue told → KeepsAroundSplit old new c
  pub order : IsTrue told → OpensInOrder old new c
  -- where no call fails, a capture is taken to its end
  pub complete : IsTrue told → (Rose faults_were faults_are → ⊥) → CompletesSplitting tells old new c status
