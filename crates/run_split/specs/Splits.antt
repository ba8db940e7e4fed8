-- What a split leaves of the objects of its host: each output is as after a replay at its port.
use Rattle.std.specs.Prelude.{ℕ, List, length, Option, ◌≡◌, ◌⊎◌, ◌<◌, [], slice_index_or, IfSome}
use Rattle.receiver_rules.specs.declared.limits.Limits.{Limits}
use Rattle.rist_words.specs.CommandLine.{ReplayCommand, SplitCommand, Replay, replay_at}
use Rattle.rist_ends.specs.Settings.{limits_of, muted_settings}
use Rattle.outside_io.specs.Causes.{HasReadCause, Rose}
use Rattle.outside_io.specs.Told.{IsEmpty, IsPrefix, Passage}
use Rattle.outside_host.specs.Shelf.{Shelf}
use Rattle.outside_host.specs.declared.host.Place.TheVariants.{Here, Back}
use Rattle.run_parts.specs.Causes.{fault_of}
use Rattle.run_files.specs.Exact.{WritesEpochs, WritesReached}
use Rattle.run_parts.specs.Objects.{Tells, passage}
use Rattle.run_parts.specs.Places.{IsAsItWas}
use Rattle.run_files.specs.Ran.{Ran}
use Rattle.run_files.specs.Works.{Replays}
use Rattle.run_parts.specs.declared.status.Status.{Status}
use Rattle.run_parts.specs.declared.status.Status.TheVariants as statuses

-- the limits of each receiver of a split, in ticks and packets
abbrev pub split_limits : SplitCommand → Limits
split_limits c = limits_of (muted_settings c.delay c.span c.restart c.drift)

-- the name of an output
abbrev pub output_name : SplitCommand → ℕ → List ℕ
output_name c v = slice_index_or c.names v []

-- what a sink holds is a front part of the whole, where both tell
abbrev pub IsFront : Option (List ℕ) → Option (List ℕ) → Type 0
IsFront holds whole = IfSome holds (λ octets. IfSome whole (λ all. IsPrefix octets all))

-- a sink holds a front part of what a replay leaves in it
abbrev pub ReplaysPart : ReplayCommand → Passage → Status → Type 0
ReplaysPart c p status = (whole : Option (List ℕ)) × Replays c (record p { holds = whole }) status
    × IsFront p.holds whole

-- an output is as after this replay with this status; and where that is Done it holds the exact release set
pub record IsAsReplayed {I O E L C : Type 0} (tells : Tells I O E) (old new : Shelf I O E L C) (c : ReplayCommand)
    (status : Status) : Type 0 where
  pub ran : Ran tells old new (Replay c) status
  pub reached : status ≡ statuses.Done → WritesReached tells old new c
  pub epochs : status ≡ statuses.Done → WritesEpochs tells old new c

-- A write to the sink of an output failed: the sink was handed out, empty, and came back with a front part of what
-- this replay leaves in it with this status.
pub record IsCutOff {I O E L C : Type 0} (tells : Tells I O E) (old new : Shelf I O E L C) (c : ReplayCommand)
    (status : Status) : Type 0 where
  pub source : I
  pub spent : I
  pub sink : O
  pub filled : O
  pub took_source : old.sources c.capture ≡ Here source
  pub gave_source : new.sources c.capture ≡ Back spent
  pub took_sink : old.sinks c.out ≡ Here sink
  pub gave_sink : new.sinks c.out ≡ Back filled
  pub fresh : IsEmpty (tells.contents sink)
  pub part : ReplaysPart c (passage tells source spent sink filled) status
  pub read : HasReadCause (fault_of status) (tells.read_faults source) (tells.read_faults spent)
  pub rose : Rose (tells.write_faults sink) (tells.write_faults filled)

-- An output is as after a replay at its port, or a write of its own failed. Nothing of another output is in it.
abbrev pub IsOutput : {I O E L C : Type 0} → Tells I O E → Shelf I O E L C → Shelf I O E L C → ReplayCommand → Status
    → Type 0
IsOutput tells old new c status = IsAsReplayed tells old new c status ⊎ IsCutOff tells old new c status

-- each output is as after a replay at its port
abbrev pub AreAsReplayed : {I O E L C : Type 0} → Tells I O E → Shelf I O E L C → Shelf I O E L C → SplitCommand
    → Status → Type 0
AreAsReplayed tells old new c status = (v : ℕ) → v < length c.ports → IsAsReplayed tells old new (replay_at c v) status

-- a write to some output failed
pub record SomeIsCutOff {I O E L C : Type 0} (tells : Tells I O E) (old new : Shelf I O E L C) (c : SplitCommand)
    (status : Status) : Type 0 where
  pub output : ℕ
  pub among : output < length c.ports
  pub cut : IsCutOff tells old new (replay_at c output) status

-- how the records of a file can end: no write failed there, and no memory was refused
abbrev pub IsRecordsEnd : Status → Type 0
IsRecordsEnd statuses.Done = Unit {0}
IsRecordsEnd statuses.Memory = ⊥
IsRecordsEnd statuses.Usage = ⊥
IsRecordsEnd statuses.OpenFault = ⊥
IsRecordsEnd statuses.ReadFault = Unit {0}
IsRecordsEnd statuses.WriteFault = ⊥
IsRecordsEnd (statuses.BadCapture kind at) = Unit {0}
IsRecordsEnd statuses.EntropyFault = ⊥
IsRecordsEnd statuses.TooLong = Unit {0}
IsRecordsEnd statuses.LinksDown = ⊥
IsRecordsEnd statuses.TraceFull = ⊥
IsRecordsEnd (statuses.Torn tear) = ⊥
IsRecordsEnd statuses.Spent = ⊥
IsRecordsEnd statuses.TurnsSpent = ⊥
IsRecordsEnd (statuses.BadPcap kind at) = Unit {0}

-- The records of a capture ended so, and each output is as after a replay with that end, but those to which a write
-- failed. Where none did the answer is that end too; else the answer is that a write failed.
pub record Splits {I O E L C : Type 0} (tells : Tells I O E) (old new : Shelf I O E L C) (c : SplitCommand)
    (status : Status) : Type 0 where
  pub ended : Status
  pub records : IsRecordsEnd ended
  pub outputs : (v : ℕ) → v < length c.ports → IsOutput tells old new (replay_at c v) ended
  pub answer : ((status ≡ ended) × AreAsReplayed tells old new c status)
      ⊎ ((status ≡ statuses.WriteFault) × SomeIsCutOff tells old new c ended)

-- a split didn't begin: its source and its sinks stand as they stood, or came back as they were
pub record Unsplit {I O E L C : Type 0} (old new : Shelf I O E L C) (c : SplitCommand) : Type 0 where
  pub source : IsAsItWas (old.sources c.capture) (new.sources c.capture)
  pub sinks : (v : ℕ) → v < length c.ports → IsAsItWas (old.sinks (output_name c v)) (new.sinks (output_name c v))
