-- What a receiving leaves in sent numbers, however it ended.
use Rattle.std.specs.Prelude.{◌≡◌, ◌⊎◌, ℕ, List, [], ◌∷◌, ◌++◌, Some, false}
use Rattle.std.specs.List.{concat}
use Rattle.outside_io.specs.Told.{IsPrefix}
use Rattle.outside_host.specs.Shelf.{Shelf}
use Rattle.outside_host.specs.declared.host.Place.TheVariants.{Back}
use Rattle.receiver_rules.specs.Sent.{SentStream, Delivery, HasSteadyTimestamps, AreDeliveriesOf}
use Rattle.receiver_rules.specs.SentEpochs.{SentStreams, Transfer, AreTransfersOf, sent_epochs}
use Rattle.receiver_rules.specs.SentEpochs.{reached_payloads as payloads_of_epochs}
use Rattle.rist_desk.specs.declared.step.Event.TheVariants as events
use Rattle.rist_desk.specs.declared.step.Step.{Step}
use Rattle.desk_run.specs.Exact.{IsRunOf, IsRunOfAll, reached_payloads}
use Rattle.rist_words.specs.CommandLine.{RecvCommand}
use Rattle.run_parts.specs.Objects.{Tells, TellsLive}
use Rattle.run_parts.specs.declared.status.Status.{Status}
use Rattle.run_receive.specs.Reached.{receive_limits}
use Rattle.run_receive.specs.Received.{Received}

-- these are the steps, the oldest first, but for an end that was told last
abbrev pub AreBeforeEnd : List Step → List Step → Type 0
AreBeforeEnd before steps =
    (steps ≡ before) ⊎ ((last : Step) × (last.what ≡ events.End) × (steps ≡ before ++ last ∷ []))

-- However a receiving ended, its receiver was told these steps. Whenever those before an end are a run of copies of
-- what one sender sent, the octets that came back under OUT are a front part of the payloads of the numbers that were
-- reached, by rising number, each once; and where flows restart of those of one epoch after another.
pub record ReceivesPart {I O E L C : Type 0} (tells : Tells I O E) (live : TellsLive L C) (old new : Shelf I O E L C)
    (c : RecvCommand) (status : Status) : Type 0 where
  pub received : Received tells live old new c status
  pub steps : List Step
  pub kept : received.run.desk.kept ≡ Some steps
  pub reached : (filled : O) (octets : List ℕ) (before : List Step) (p : SentStream) (run : List Delivery)
      → new.sinks c.out ≡ Back filled → tells.contents filled ≡ Some octets → AreBeforeEnd before steps
      → IsRunOf p run before → HasSteadyTimestamps p → c.receiver.drift ≡ false
      → AreDeliveriesOf (receive_limits c) p run
      → IsPrefix octets (concat (reached_payloads (receive_limits c) p run))
  pub epochs : (filled : O) (octets : List ℕ) (before : List Step) (streams : SentStreams) (run : List Transfer)
      → new.sinks c.out ≡ Back filled → tells.contents filled ≡ Some octets → AreBeforeEnd before steps
      → IsRunOfAll streams run before → ((epoch : ℕ) → HasSteadyTimestamps (streams epoch))
      → AreTransfersOf (receive_limits c) streams run
      → IsPrefix octets (concat (payloads_of_epochs streams (sent_epochs (receive_limits c) streams run)))
