-- What a run says of the objects of its host.
use Rattle.std.specs.Prelude.{◌≡◌}
use Rattle.outside_io.specs.Causes.{HasReadCause, HasWriteCause}
use Rattle.outside_io.specs.Told.{IsEmpty}
use Rattle.outside_host.specs.Shelf.{Shelf}
use Rattle.outside_host.specs.declared.host.Place.TheVariants.{Here, Back}
use Rattle.rist_words.specs.CommandLine.{CommandLine}
use Rattle.run_parts.specs.Causes.{fault_of}
use Rattle.run_parts.specs.Objects.{Tells, passage}
use Rattle.run_files.specs.Works.{Works}
use Rattle.run_parts.specs.Sealing.{FailedAt, DrawnFirst}
use Rattle.run_parts.specs.declared.status.Status.{Status}
use Rattle.run_parts.specs.declared.status.Status.TheVariants as statuses
use Rattle.run_parts.specs.Names.{source_name, sink_name}

-- the source and the sink of a line were handed out and came back, and the status says what they tell
pub record Ran {I O E L C : Type 0} (tells : Tells I O E) (old new : Shelf I O E L C) (c : CommandLine)
    (status : Status) : Type 0 where
  pub source : I
  pub spent : I
  pub sink : O
  pub filled : O
  pub took_source : old.sources (source_name c) ≡ Here source
  pub gave_source : new.sources (source_name c) ≡ Back spent
  pub took_sink : old.sinks (sink_name c) ≡ Here sink
  pub gave_sink : new.sinks (sink_name c) ≡ Back filled
  pub fresh : IsEmpty (tells.contents sink)
  pub work : Works (DrawnFirst tells old.entropies new.entropies) c (passage tells source spent sink filled) status
  pub read : HasReadCause (fault_of status) (tells.read_faults source) (tells.read_faults spent)
  pub write : HasWriteCause (fault_of status) (tells.write_faults sink) (tells.write_faults filled)
  -- where random words failed they came from the first place
  pub random : status ≡ statuses.EntropyFault → FailedAt tells old new
