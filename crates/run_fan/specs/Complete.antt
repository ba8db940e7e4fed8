-- How a receiving of several flows ends in which nothing fails but links.
use Rattle.std.specs.Prelude.{◌≡◌, ◌⊎◌, ◌<◌, ℕ, length, true, is_some}
use Rattle.outside_io.specs.Causes.{Rose}
use Rattle.outside_host.specs.Shelf.{Shelf}
use Rattle.outside_host.specs.declared.host.Place.TheVariants.{Here, Back}
use Rattle.outside_net.specs.Links.{LinkTells}
use Rattle.rist_words.specs.CommandLine.{FanCommand}
use Rattle.run_parts.specs.Sealing.{FailedAt}
use Rattle.run_parts.specs.Objects.{Tells}
use Rattle.run_parts.specs.declared.status.Status.{Status}
use Rattle.run_parts.specs.declared.status.Status.TheVariants as statuses
use Rattle.run_parts.specs.Complete.{StaysUp}
use Rattle.run_fan.specs.Sessions.{output_name}

-- no write to the sink of an output failed
abbrev pub IsWritten : {I O E L C : Type 0} → Tells I O E → Shelf I O E L C → Shelf I O E L C → FanCommand → ℕ → Type 0
IsWritten {I} {O} tells old new c v = (sink filled : O) → old.sinks (output_name c v) ≡ Here sink
    → new.sinks (output_name c v) ≡ Back filled → Rose (tells.write_faults sink) (tells.write_faults filled) → ⊥

-- no write to any, and no drawing of random words failed
pub record NoneFailedBut {I O E L C : Type 0} (tells : Tells I O E) (old new : Shelf I O E L C)
    (c : FanCommand) : Type 0 where
  pub writes : (v : ℕ) → v < length c.ports → IsWritten tells old new c v
  pub words : FailedAt tells old new → ⊥

-- it came to its end, or with a passphrase too few pairs were left, or memory was refused
abbrev pub IsHeard : FanCommand → Status → Type 0
IsHeard c status =
    (status ≡ statuses.Done)
    ⊎ (((status ≡ statuses.Spent) × (is_some c.session.pass ≡ true)) ⊎ (status ≡ statuses.Memory))

-- one in which nothing failed but links, of which one stays up, ends so
abbrev pub CompletesFanning : {I O E L C : Type 0} → Tells I O E → LinkTells L → Shelf I O E L C → Shelf I O E L C
    → FanCommand → Status → Type 0
CompletesFanning tells line old new c status =
    NoneFailedBut tells old new c → StaysUp line old.links new.links (length c.links) → IsHeard c status
