-- How a gateway ends in which nothing fails but links.
use Rattle.std.specs.Prelude.{◌≡◌, ◌≢◌, ◌⊎◌, ◌<◌, ◌+◌, ℕ, length}
use Rattle.outside_io.specs.Causes.{Rose}
use Rattle.outside_host.specs.Shelf.{Shelf}
use Rattle.outside_host.specs.declared.host.Place.{Place}
use Rattle.outside_host.specs.declared.host.Place.TheVariants.{Here, Back}
use Rattle.outside_net.specs.Links.{LinkTells}
use Rattle.rist_words.specs.CommandLine.{GateCommand}
use Rattle.run_parts.specs.Sealing.{FailedAt}
use Rattle.run_parts.specs.Objects.{Tells}
use Rattle.run_parts.specs.declared.status.Status.{Status}
use Rattle.run_parts.specs.declared.status.Status.TheVariants as statuses
use Rattle.run_parts.specs.Complete.{StaysUp}
use Rattle.run_links.specs.Complete.{IsKeptBadly}

-- of so many links behind the first ones one stays up
pub record StaysUpBehind {L : Type 0} (line : LinkTells L) (old new : ℕ → Place L) (first count : ℕ) : Type 0 where
  pub place : ℕ
  pub among : place < count
  pub up : (was is : L) → old (first + place) ≡ Here was → new (first + place) ≡ Back is
      → Rose (line.faults was) (line.faults is) → ⊥

-- a gateway came to its end, or too few pairs were left at either end, or memory was refused; or its steps were to be
-- kept, and had no room or differ
abbrev pub IsGateWhole : GateCommand → Status → Type 0
IsGateWhole c status =
    (status ≡ statuses.Done)
    ⊎ ((status ≡ statuses.Spent) ⊎ ((status ≡ statuses.Memory) ⊎ ((c.serving.keep ≢ 0) × IsKeptBadly status)))

-- a gateway in which nothing failed but links, of which one that is received on and one that is sent on stay up, comes
-- to a whole end
abbrev pub CompletesGating : {I O E L C : Type 0} → Tells I O E → LinkTells L → Shelf I O E L C → Shelf I O E L C
    → GateCommand → Status → Type 0
CompletesGating tells line old new c status =
    (FailedAt tells old new → ⊥) → StaysUp line old.links new.links (length c.inputs)
    → StaysUpBehind line old.links new.links (length c.inputs) (length c.outputs) → IsGateWhole c status
