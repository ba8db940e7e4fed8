-- The headline of a receiving of several flows, for each output by itself: what its links brought there is one history,
-- and where that is a run of copies of what was sent to its port, what came back under its name is what was reached.
use Rattle.std.specs.Prelude.{◌≡◌, ℕ, List, Some, false}
use Rattle.std.specs.List.{concat}
use Rattle.outside_host.specs.Shelf.{Shelf}
use Rattle.outside_host.specs.declared.host.Place.TheVariants.{Back}
use Rattle.receiver_rules.specs.Sent.{SentStream, Delivery, HasSteadyTimestamps, AreDeliveriesOf}
use Rattle.receiver_rules.specs.SentEpochs.{SentStreams, Transfer, AreTransfersOf, sent_epochs}
use Rattle.receiver_rules.specs.SentEpochs.{reached_payloads as payloads_of_epochs}
use Rattle.desk_run.specs.Exact.{IsRunOf, IsRunOfAll, reached_payloads}
use Rattle.rist_words.specs.CommandLine.{FanCommand}
use Rattle.run_parts.specs.Objects.{Tells, TellsLive}
use Rattle.run_fan.specs.Brought.{IsBrought}
use Rattle.run_fan.specs.Sessions.{fan_limits, output_name}

-- Whenever the history of an output is a run of copies of what one sender sent, the octets that came back under its
-- name are the payloads of the numbers that were reached, by rising number, each once; and where flows restart those of
-- one epoch after another.
pub record FansReached {I O E L C : Type 0} (tells : Tells I O E) (live : TellsLive L C) (old new : Shelf I O E L C)
    (c : FanCommand) (v : ℕ) : Type 0 where
  pub brought : IsBrought live old c v
  pub reached : (filled : O) (octets : List ℕ) (p : SentStream) (run : List Delivery)
      → new.sinks (output_name c v) ≡ Back filled → tells.contents filled ≡ Some octets
      → IsRunOf p run brought.history → HasSteadyTimestamps p → c.receiver.drift ≡ false
      → AreDeliveriesOf (fan_limits c) p run
      → octets ≡ concat (reached_payloads (fan_limits c) p run)
  pub epochs : (filled : O) (octets : List ℕ) (streams : SentStreams) (run : List Transfer)
      → new.sinks (output_name c v) ≡ Back filled → tells.contents filled ≡ Some octets
      → IsRunOfAll streams run brought.history → ((epoch : ℕ) → HasSteadyTimestamps (streams epoch))
      → AreTransfersOf (fan_limits c) streams run
      → octets ≡ concat (payloads_of_epochs streams (sent_epochs (fan_limits c) streams run))
