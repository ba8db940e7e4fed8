-- What the parts of a run answer.
use Rattle.std.specs.Prelude.{◌≡◌, ◌≢◌}
use Rattle.outside_host.specs.Shelf.{Shelf, Stays}
use Rattle.run_parts.specs.declared.status.Status.{Status}
use Rattle.run_parts.specs.declared.status.Status.TheVariants as statuses

-- a status that the work over a source and a sink can have
pub record IsOwn (status : Status) : Type 0 where
  pub line : status ≢ statuses.Usage
  pub opened : status ≢ statuses.OpenFault
  pub random : status ≢ statuses.EntropyFault

-- a source and a sink are as they were handed out, and no random word was drawn
pub record IsUnbegun {I O E L C : Type 0} (source spent : I) (sink filled : O)
    (old new : Shelf I O E L C) : Type 0 where
  pub unread : spent ≡ source
  pub unwritten : filled ≡ sink
  pub entropies : Stays old.entropies new.entropies
