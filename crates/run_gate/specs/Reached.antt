-- The headline of a gateway, in one step: what its links brought is one history, and where that is a run of copies of
-- what was sent, what went on is what was reached.
use Rattle.std.specs.Prelude.{◌≡◌, ℕ, List, length, false}
use Rattle.std.specs.List.{concat}
use Rattle.outside_host.specs.Shelf.{Shelf}
use Rattle.receiver_rules.specs.declared.limits.Limits.{Limits}
use Rattle.receiver_rules.specs.Sent.{SentStream, Delivery, HasSteadyTimestamps, AreDeliveriesOf}
use Rattle.receiver_rules.specs.SentEpochs.{SentStreams, Transfer, AreTransfersOf, sent_epochs}
use Rattle.receiver_rules.specs.SentEpochs.{reached_payloads as payloads_of_epochs}
use Rattle.rist_ends.specs.Settings.{limits_of}
use Rattle.desk_run.specs.Exact.{IsRunOf, IsRunOfAll, reached_payloads}
use Rattle.rist_words.specs.CommandLine.{GateCommand}
use Rattle.run_gate.specs.Gated.{Gated}
use Rattle.run_parts.specs.Objects.{Tells, TellsLive}
use Rattle.run_links.specs.Sessions.{limits_served, settings_with}
use Rattle.run_parts.specs.Sessions.{session_read}
use Rattle.run_parts.specs.declared.status.Status.{Status}
use Rattle.run_links.specs.Brought.{IsBrought}

-- the limits of a gateway's buffer, in ticks and packets
abbrev pub gate_limits : GateCommand → Limits
gate_limits c = limits_of (settings_with c.receiver)

-- the octets of the payloads that a gateway's sender took, put by put
abbrev pub octets_sent : {I O E L C : Type 0} {tells : Tells I O E} {live : TellsLive L C}
    {old new : Shelf I O E L C} {c : GateCommand} {status : Status}
    → Gated tells live old new c status → List ℕ
octets_sent gated = gated.run.last.passed.sent

-- The headline of a gateway: there is one history of the steps of the links that are received on, such that, whenever
-- it is a run of copies of p, the octets of the payloads that the gateway's sender took, and gave to the links that are
-- sent on, are those of the payloads that were reached.
pub record GatesReached {I O E L C : Type 0} (tells : Tells I O E) (live : TellsLive L C) (old new : Shelf I O E L C)
    (c : GateCommand) (status : Status) : Type 0 where
  pub gated : Gated tells live old new c status
  pub brought : IsBrought live old (session_read c.incoming) (limits_served c.serving) (length c.inputs)
  pub reached : (p : SentStream) (run : List Delivery) → IsRunOf p run brought.history → HasSteadyTimestamps p
      → c.receiver.drift ≡ false
      → AreDeliveriesOf (gate_limits c) p run → octets_sent gated ≡ concat (reached_payloads (gate_limits c) p run)
  pub epochs : (streams : SentStreams) (run : List Transfer) → IsRunOfAll streams run brought.history
      → ((epoch : ℕ) → HasSteadyTimestamps (streams epoch))
      → AreTransfersOf (gate_limits c) streams run
      → octets_sent gated ≡ concat (payloads_of_epochs streams (sent_epochs (gate_limits c) streams run))
