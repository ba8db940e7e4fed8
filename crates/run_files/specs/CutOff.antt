-- What a replay leaves in sent numbers where a write failed, over the objects of a host.
use Rattle.std.specs.Prelude.{◌≡◌, ◌⊎◌, ℕ, List, Option, Some, false, Result}
use Rattle.std.specs.List.{concat}
use Rattle.outside_io.specs.Told.{AppendsPart}
use Rattle.outside_host.specs.Shelf.{Shelf}
use Rattle.outside_host.specs.declared.host.Place.TheVariants.{Here, Back}
use Rattle.block_source.specs.Block.{most_ahead}
use Rattle.capture_file.specs.Capture.{Record}
use Rattle.capture_walk.specs.Leaves.{EndsAfter, HasGiven}
use Rattle.capture_walk.specs.declared.walk_bad.WalkBad.{WalkBad}
use Rattle.receiver_rules.specs.Sent.{SentStream, Delivery, HasSteadyTimestamps, AreDeliveriesOf}
use Rattle.receiver_rules.specs.SentEpochs.{SentStreams, Transfer, AreTransfersOf, sent_epochs}
use Rattle.receiver_rules.specs.SentEpochs.{reached_payloads as payloads_of_epochs}
use Rattle.rist_words.specs.CommandLine.{ReplayCommand}
use Rattle.rist_replay.specs.Exact.{IsCaptureOf, IsCaptureOfAll, reached_payloads}
use Rattle.run_parts.specs.Objects.{Tells}
use Rattle.run_parts.specs.Sessions.{session_read}
use Rattle.run_files.specs.Sessions.{replay_limits}
use Rattle.run_files.specs.Works.{form_of}

-- of these octets these whole records were read when a write failed: that of the last of them, or that of what ended
-- the file behind them
abbrev pub AreReadSoFar : ReplayCommand → List ℕ → Option (List ℕ) → List Record → Type 0
AreReadSoFar c b left records =
    HasGiven (form_of c.session c.pcap) most_ahead records b left
    ⊎ ((end : Result Unit WalkBad) × EndsAfter (form_of c.session c.pcap) most_ahead b left records end)

-- Whole records were read when a write of a replay failed. Whenever they are a capture of a run of copies of what was
-- sent, what the sink gained is a front part of the payloads of the numbers that were reached, or of those of one
-- epoch after another.
pub record ReachesPart {I O E : Type 0} (tells : Tells I O E) (c : ReplayCommand) (b : List ℕ) (spent : I)
    (sink filled : O) : Type 0 where
  pub records : List Record
  pub read : AreReadSoFar c b (tells.remaining spent) records
  pub reached : (p : SentStream) (run : List Delivery) → IsCaptureOf (session_read c.session) p run records
      → HasSteadyTimestamps p → c.drift ≡ false → AreDeliveriesOf (replay_limits c) p run
      → AppendsPart (tells.contents sink) (tells.contents filled) (concat (reached_payloads (replay_limits c) p run))
  pub epochs : (streams : SentStreams) (run : List Transfer)
      → IsCaptureOfAll (session_read c.session) streams run records
      → ((epoch : ℕ) → HasSteadyTimestamps (streams epoch)) → AreTransfersOf (replay_limits c) streams run
      → AppendsPart (tells.contents sink) (tells.contents filled)
      (concat (payloads_of_epochs streams (sent_epochs (replay_limits c) streams run)))

-- so of a replay's objects, where its source tells its octets
abbrev pub WritesPartReached : {I O E L C : Type 0} → Tells I O E → Shelf I O E L C → Shelf I O E L C → ReplayCommand
    → Type 0
WritesPartReached {I} {O} tells old new c =
    (source spent : I) (sink filled : O) (b : List ℕ) → old.sources c.capture ≡ Here source
    → new.sources c.capture ≡ Back spent → old.sinks c.out ≡ Here sink → new.sinks c.out ≡ Back filled
    → tells.remaining source ≡ Some b → ReachesPart tells c b spent sink filled
