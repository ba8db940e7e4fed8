-- What a receiving leaves of its host, and what it answers.
use Rattle.std.specs.Prelude.{◌≡◌, ℕ, Bool, IsTrue, true, is_some}
use Rattle.outside_io.specs.Causes.{Rose}
use Rattle.outside_host.specs.Links.{AreFirstOf}
use Rattle.outside_host.specs.Shelf.{Shelf}
use Rattle.rist_words.specs.CommandLine.{RecvCommand}
use Rattle.run_parts.specs.Causes.{CanRefuse}
use Rattle.run_receive.specs.Complete.{CompletesReceiving}
use Rattle.run_receive.specs.CutOff.{ReceivesPart}
use Rattle.run_receive.specs.Ends.{IsReceiveEnd}
use Rattle.run_receive.specs.Frame.{KeepsAroundSink, OpensLinksAfterSink, links_received}
use Rattle.run_parts.specs.Objects.{Tells, TellsLive}
use Rattle.run_receive.specs.Reached.{IsPlayedOut, ReceivesReached}
use Rattle.run_receive.specs.Received.{Received, Unreceived}
use Rattle.run_parts.specs.Sealing.{FailedAt}
use Rattle.run_parts.specs.Hosts.{IsUnused}
use Rattle.run_parts.specs.declared.status.Status.{Status}
use Rattle.run_parts.specs.declared.status.Status.TheVariants as statuses

-- what a receiving did to an unused host that tells, whose count of failed calls stood so before and after
pub record DoesReceive {I O E L C : Type 0} (told : Bool) (tells : Tells I O E) (live : TellsLive L C)
    (c : RecvCommand) (faults_were faults_are : ℕ) (old new : Shelf I O E L C) (status : Status) : Type 0 where
  -- a status that is none of a receiving's never comes
  pub ends : IsReceiveEnd c status
  -- what comes on its links is played out to its sink, links and clocks come back, and the receiver's counts reach the
  -- host; or nothing was read and nothing written
  pub received : IsUnused told old → (CanRefuse status → ⊥) → Received tells live old new c status
  pub unreceived : IsUnused told old → CanRefuse status → Unreceived old new c
  -- what its links brought is one history, each link's own in its order; and where that is a run of copies of what was
  -- sent, what came back under OUT is what was reached
  pub reached : IsUnused told old → IsPlayedOut status → ReceivesReached tells live old new c
  -- however it ended, what came back under OUT is a front part of what its steps reached
  pub cut : IsUnused told old → (CanRefuse status → ⊥) → ReceivesPart tells live old new c status
  -- it touches only what its line speaks of
  pub around : IsUnused told old → KeepsAroundSink old new c
  -- just the links of the line are opened, in its order, and none before the sink could be
  pub links_opened : IsUnused told old → (CanRefuse status → ⊥) → new.opened_links ≡ links_received c
  -- and where nothing is begun, the first ones of these
  pub links_tried : IsUnused told old → AreFirstOf new.opened_links (links_received c)
  pub links_after : IsTrue told → OpensLinksAfterSink old new c
  -- random words fail it only where the first of them failed
  pub random : IsUnused told old → status ≡ statuses.EntropyFault → FailedAt tells old new
  -- it is in want of pairs only under a passphrase
  pub spent : IsUnused told old → status ≡ statuses.Spent → is_some c.session.pass ≡ true
  -- where no call fails and one link doesn't, it is done, unless pairs are spent or its kept steps have no room or
  -- differ
  pub complete : IsUnused told old → (Rose faults_were faults_are → ⊥)
      → CompletesReceiving tells live.line old new c status
