-- What a gateway leaves of its host, and what it answers.
use Rattle.std.specs.Prelude.{◌≡◌, ℕ, Bool}
use Rattle.outside_io.specs.Causes.{Rose}
use Rattle.outside_host.specs.Links.{AreFirstOf}
use Rattle.outside_host.specs.Shelf.{Shelf}
use Rattle.rist_words.specs.CommandLine.{GateCommand}
use Rattle.run_parts.specs.Causes.{CanRefuse}
use Rattle.run_gate.specs.Complete.{CompletesGating}
use Rattle.run_gate.specs.Ends.{IsGateEnd}
use Rattle.run_gate.specs.Frame.{KeepsAroundGate, links_gated}
use Rattle.run_gate.specs.Gated.{Gated, Ungated}
use Rattle.run_gate.specs.Reached.{GatesReached}
use Rattle.run_parts.specs.Objects.{Tells, TellsLive}
use Rattle.run_parts.specs.Sealing.{FailedAt}
use Rattle.run_parts.specs.Hosts.{IsUnused}
use Rattle.run_parts.specs.declared.status.Status.{Status}
use Rattle.run_parts.specs.declared.status.Status.TheVariants as statuses

-- what a gateway did to an unused host that tells, whose count of failed calls stood so before and after
pub record DoesGate {I O E L C : Type 0} (told : Bool) (tells : Tells I O E) (live : TellsLive L C) (c : GateCommand)
    (faults_were faults_are : ℕ) (old new : Shelf I O E L C) (status : Status) : Type 0 where
  -- a status that is none of a gateway's never comes
  pub ends : IsGateEnd c status
  -- what comes on its first links goes on over the others, links and clocks come back, and the receiver's counts reach
  -- the host; or no link was read or written
  pub gated : IsUnused told old → (CanRefuse status → ⊥) → Gated tells live old new c status
  pub ungated : IsUnused told old → CanRefuse status → Ungated old new
  -- what its first links brought is one history, and where that is a run of copies of what was sent, what went on is
  -- what was reached
  pub reached : IsUnused told old → status ≡ statuses.Done → GatesReached tells live old new c status
  -- it touches only what its line speaks of
  pub around : IsUnused told old → KeepsAroundGate old new c
  -- just the links of the line are opened, in its order
  pub links_opened : IsUnused told old → (CanRefuse status → ⊥) → new.opened_links ≡ links_gated c
  -- and where nothing is begun, the first ones of these
  pub links_tried : IsUnused told old → AreFirstOf new.opened_links (links_gated c)
  -- random words fail it only where those of the first place failed
  pub random : IsUnused told old → status ≡ statuses.EntropyFault → FailedAt tells old new
  -- where no call fails and one link of each end doesn't, it is done, unless pairs are spent or its kept steps have no
  -- room or differ
  pub complete : IsUnused told old → (Rose faults_were faults_are → ⊥)
      → CompletesGating tells live.line old new c status
