-- How a receiving ends in which nothing fails but links.
use Rattle.std.specs.Prelude.{◌≡◌, ◌≢◌, ◌⊎◌, length, true, is_some}
use Rattle.outside_io.specs.Causes.{Rose}
use Rattle.outside_host.specs.Shelf.{Shelf}
use Rattle.outside_host.specs.declared.host.Place.TheVariants.{Here, Back}
use Rattle.outside_net.specs.Links.{LinkTells}
use Rattle.rist_words.specs.CommandLine.{RecvCommand}
use Rattle.run_parts.specs.Sealing.{FailedAt}
use Rattle.run_parts.specs.Objects.{Tells}
use Rattle.run_parts.specs.declared.status.Status.{Status}
use Rattle.run_parts.specs.declared.status.Status.TheVariants as statuses
use Rattle.run_parts.specs.Complete.{StaysUp}
use Rattle.run_links.specs.Complete.{IsKeptBadly}

-- no write to the sink of a receiving and no drawing of random words failed
pub record NoWriteFailed {I O E L C : Type 0} (tells : Tells I O E) (old new : Shelf I O E L C)
    (c : RecvCommand) : Type 0 where
  pub writes : (sink filled : O) → old.sinks c.out ≡ Here sink → new.sinks c.out ≡ Back filled
      → Rose (tells.write_faults sink) (tells.write_faults filled) → ⊥
  pub words : FailedAt tells old new → ⊥

-- a receiving came to its end, or with a passphrase too few pairs were left, or memory was refused; or its steps were
-- to be kept, and had no room or differ
abbrev pub IsHeard : RecvCommand → Status → Type 0
IsHeard c status =
    (status ≡ statuses.Done)
    ⊎ (((status ≡ statuses.Spent) × (is_some c.session.pass ≡ true))
    ⊎ ((status ≡ statuses.Memory) ⊎ ((c.serving.keep ≢ 0) × IsKeptBadly status)))

-- a receiving in which nothing failed but links, of which one stays up, ends so
abbrev pub CompletesReceiving : {I O E L C : Type 0} → Tells I O E → LinkTells L → Shelf I O E L C → Shelf I O E L C
    → RecvCommand → Status → Type 0
CompletesReceiving tells line old new c status =
    NoWriteFailed tells old new c → StaysUp line old.links new.links (length c.links) → IsHeard c status
