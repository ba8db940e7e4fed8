-- What a receiving of several flows leaves of its host, and what it answers.
use Rattle.std.specs.Prelude.{◌≡◌, ◌<◌, ℕ, length, Bool, IsTrue, true, is_some}
use Rattle.outside_io.specs.Causes.{Rose}
use Rattle.outside_host.specs.Links.{AreFirstOf}
use Rattle.outside_host.specs.Shelf.{Shelf}
use Rattle.rist_words.specs.CommandLine.{FanCommand}
use Rattle.run_parts.specs.Causes.{CanRefuse}
use Rattle.run_parts.specs.Hosts.{IsUnused}
use Rattle.run_parts.specs.Objects.{Tells, TellsLive}
use Rattle.run_parts.specs.Sealing.{FailedAt}
use Rattle.run_parts.specs.declared.status.Status.{Status}
use Rattle.run_parts.specs.declared.status.Status.TheVariants as statuses
use Rattle.run_fan.specs.Complete.{CompletesFanning, IsWritten}
use Rattle.run_fan.specs.Ends.{IsFanEnd}
use Rattle.run_fan.specs.Fanned.{Fanned, Unfanned}
use Rattle.run_fan.specs.Frame.{KeepsAroundSinks, OpensSinksFirst, links_fanned}
use Rattle.run_fan.specs.Reached.{FansReached}

-- what a receiving of several flows did to an unused host that tells, whose count of failed calls stood so before and
-- after
pub record DoesFan {I O E L C : Type 0} (told : Bool) (tells : Tells I O E) (live : TellsLive L C)
    (c : FanCommand) (faults_were faults_are : ℕ) (old new : Shelf I O E L C) (status : Status) : Type 0 where
  -- a status that is none of a receiving's never comes
  pub ends : IsFanEnd c status
  -- what comes on its links is played out to its sinks, each flow to its own; links and clocks come back, and the
  -- receivers' counts reach the host; or nothing was read and nothing written
  pub fanned : IsUnused told old → (CanRefuse status → ⊥) → Fanned tells live old new c status
  pub unfanned : IsUnused told old → CanRefuse status → Unfanned old new c
  -- however it ended: of each output to which no write failed, what the links brought there is one history, each link's
  -- own in its order; and where that is a run of copies of what was sent, what came back under its name is what was
  -- reached
  pub reached : IsUnused told old → (CanRefuse status → ⊥) → (v : ℕ) → v < length c.ports
      → IsWritten tells old new c v → FansReached tells live old new c v
  -- it touches only what its line speaks of
  pub around : IsUnused told old → KeepsAroundSinks old new c
  -- the sinks are opened in the line's order; then just the links of the line, in its order, and none before all sinks
  -- could be
  pub order : IsTrue told → OpensSinksFirst old new c
  pub links_opened : IsUnused told old → (CanRefuse status → ⊥) → new.opened_links ≡ links_fanned c
  -- and where nothing is begun, the first ones of these
  pub links_tried : IsUnused told old → AreFirstOf new.opened_links (links_fanned c)
  -- random words fail it only where the first source of them failed
  pub random : IsUnused told old → status ≡ statuses.EntropyFault → FailedAt tells old new
  -- it is in want of pairs only under a passphrase
  pub spent : IsUnused told old → status ≡ statuses.Spent → is_some c.session.pass ≡ true
  -- where no call fails and one link doesn't, it is done, unless pairs are spent or memory is refused
  pub complete : IsUnused told old → (Rose faults_were faults_are → ⊥)
      → CompletesFanning tells live.line old new c status
