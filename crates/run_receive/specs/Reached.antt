-- The headline of a receiving, in one step: what its links brought is one history, and where that is a run of copies
-- of what was sent, what came back under OUT is what was reached.
use Rattle.std.specs.Prelude.{◌≡◌, ◌⊎◌, ℕ, List, length, Some, false}
use Rattle.std.specs.List.{concat}
use Rattle.outside_host.specs.Shelf.{Shelf}
use Rattle.outside_host.specs.declared.host.Place.TheVariants.{Back}
use Rattle.receiver_rules.specs.declared.limits.Limits.{Limits}
use Rattle.receiver_rules.specs.Sent.{SentStream, Delivery, HasSteadyTimestamps, AreDeliveriesOf}
use Rattle.receiver_rules.specs.SentEpochs.{SentStreams, Transfer, AreTransfersOf, sent_epochs}
use Rattle.receiver_rules.specs.SentEpochs.{reached_payloads as payloads_of_epochs}
use Rattle.rist_ends.specs.Settings.{limits_of}
use Rattle.desk_run.specs.Exact.{IsRunOf, IsRunOfAll, reached_payloads}
use Rattle.rist_words.specs.CommandLine.{RecvCommand}
use Rattle.run_parts.specs.Objects.{Tells, TellsLive}
use Rattle.run_receive.specs.Sessions.{limits_received, settings_received}
use Rattle.run_parts.specs.Sessions.{session_read}
use Rattle.run_parts.specs.declared.status.Status.{Status}
use Rattle.run_parts.specs.declared.status.Status.TheVariants as statuses
use Rattle.run_links.specs.Brought.{IsBrought}

-- a receiving whose links ended: all that was held is out
abbrev pub IsPlayedOut : Status → Type 0
IsPlayedOut status = (status ≡ statuses.Done) ⊎ (status ≡ statuses.LinksDown)

-- the limits of a receiving's buffer, in ticks and packets
abbrev pub receive_limits : RecvCommand → Limits
receive_limits c = limits_of (settings_received c)

-- Whenever the history of a receiving is a run of copies of what one sender sent, the octets that came back under
-- OUT are the payloads of the numbers that were reached, by rising number, each once; and where flows restart those
-- of one epoch after another.
pub record ReceivesReached {I O E L C : Type 0} (tells : Tells I O E) (live : TellsLive L C) (old new : Shelf I O E L C)
    (c : RecvCommand) : Type 0 where
  pub brought : IsBrought live old (session_read c.session) (limits_received c) (length c.links)
  pub reached : (filled : O) (octets : List ℕ) (p : SentStream) (run : List Delivery) → new.sinks c.out ≡ Back filled
      → tells.contents filled ≡ Some octets
      → IsRunOf p run brought.history → HasSteadyTimestamps p → c.receiver.drift ≡ false
      → AreDeliveriesOf (receive_limits c) p run
      → octets ≡ concat (reached_payloads (receive_limits c) p run)
  pub epochs : (filled : O) (octets : List ℕ) (streams : SentStreams) (run : List Transfer)
      → new.sinks c.out ≡ Back filled → tells.contents filled ≡ Some octets
      → IsRunOfAll streams run brought.history → ((epoch : ℕ) → HasSteadyTimestamps (streams epoch))
      → AreTransfersOf (receive_limits c) streams run
      → octets ≡ concat (payloads_of_epochs streams (sent_epochs (receive_limits c) streams run))
