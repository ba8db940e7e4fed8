-- What a sending leaves of its host, and what it answers.
use Rattle.std.specs.Prelude.{◌≡◌, ℕ, Bool, IsTrue}
use Rattle.outside_io.specs.Causes.{Rose}
use Rattle.outside_host.specs.Links.{AreFirstOf}
use Rattle.outside_host.specs.Shelf.{Shelf}
use Rattle.rist_words.specs.CommandLine.{SendCommand}
use Rattle.run_parts.specs.Causes.{CanRefuse}
use Rattle.run_send.specs.Complete.{CompletesSending}
use Rattle.run_send.specs.Ends.{IsSendEnd}
use Rattle.run_send.specs.Frame.{KeepsAround, OpensLinksAfter, links_opened}
use Rattle.run_parts.specs.Objects.{Tells, TellsLive}
use Rattle.run_send.specs.Pieces.{SentInPieces}
use Rattle.run_parts.specs.Sealing.{FailedAt}
use Rattle.run_parts.specs.Hosts.{IsUnused}
use Rattle.run_send.specs.Sent.{Sent, Unsent}
use Rattle.run_parts.specs.declared.status.Status.{Status}
use Rattle.run_parts.specs.declared.status.Status.TheVariants as statuses

-- what a sending did to an unused host that tells, whose count of failed calls stood so before and after
pub record DoesSend {I O E L C : Type 0} (told : Bool) (tells : Tells I O E) (live : TellsLive L C) (c : SendCommand)
    (faults_were faults_are : ℕ) (old new : Shelf I O E L C) (status : Status) : Type 0 where
  -- a status that is none of a sending's never comes
  pub ends : IsSendEnd c status
  -- its source is sent onto the links of its line by the first clock, and source, links and clock come back; or nothing
  -- was read of it and nothing written
  pub sent : IsUnused told old → (CanRefuse status → ⊥) → Sent tells live old new c status
  pub unsent : IsUnused told old → CanRefuse status → Unsent old new c
  -- the payloads sent are the first pieces of the source's octets, or where it comes in datagrams the first of their
  -- payloads as they came, in order, each once, and with Done all of them
  pub pieces : IsUnused told old → (CanRefuse status → ⊥) → SentInPieces tells live old new c status
  -- it touches only what its line speaks of
  pub around : IsUnused told old → KeepsAround old new c
  -- only the first ones of its links are opened, in its order
  pub links_tried : IsUnused told old → AreFirstOf new.opened_links (links_opened c)
  -- just the links of the line are opened, in its order, and none before the source could be
  pub links_opened : IsUnused told old → (CanRefuse status → ⊥) → new.opened_links ≡ links_opened c
  pub links_after : IsTrue told → OpensLinksAfter old new c
  -- random words fail it only where the first of them failed
  pub random : IsUnused told old → status ≡ statuses.EntropyFault → FailedAt tells old new
  -- where no call fails and one link doesn't, the source is taken to its end, unless turns or pairs are spent before
  pub complete : IsUnused told old → (Rose faults_were faults_are → ⊥)
      → CompletesSending tells live.line old new c status
