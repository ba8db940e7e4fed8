-- The exact release set of a replay, over the objects of a host.
use Rattle.std.specs.Prelude.{◌≡◌, ℕ, List, Option, Some, false, Result}
use Rattle.std.specs.List.{concat}
use Rattle.outside_io.specs.Told.{Appends}
use Rattle.outside_host.specs.Shelf.{Shelf}
use Rattle.outside_host.specs.declared.host.Place.TheVariants.{Here, Back}
use Rattle.capture_file.specs.Capture.{Record}
use Rattle.capture_walk.specs.Form.{IsFile}
use Rattle.capture_walk.specs.Leaves.{EndsAfter}
use Rattle.capture_walk.specs.declared.walk_bad.WalkBad.{WalkBad}
use Rattle.receiver_rules.specs.Sent.{SentStream, Delivery, HasSteadyTimestamps, AreDeliveriesOf}
use Rattle.rist_words.specs.CommandLine.{ReplayCommand}
use Rattle.receiver_rules.specs.SentEpochs.{SentStreams, Transfer, AreTransfersOf, sent_epochs}
use Rattle.receiver_rules.specs.SentEpochs.{reached_payloads as payloads_of_epochs}
use Rattle.rist_replay.specs.Exact.{IsCaptureOf, IsCaptureOfAll, reached_payloads}
use Rattle.run_parts.specs.Objects.{Tells}
use Rattle.run_parts.specs.Sessions.{session_read}
use Rattle.run_files.specs.Sessions.{replay_limits}
use Rattle.run_files.specs.Works.{form_of}
use Rattle.run_parts.specs.Statuses.{walk_status}
use Rattle.run_parts.specs.declared.status.Status.{Status}

-- where the base of deadlines stays, what the sink gained are the payloads of the numbers that were reached, for every
-- sender and every run of copies of its packets that the octets of the source, told, are a capture or a pcap file of
abbrev pub WritesReached : {I O E L C : Type 0} → Tells I O E → Shelf I O E L C → Shelf I O E L C → ReplayCommand
    → Type 0
WritesReached {I} {O} tells old new c =
    (source : I) (sink filled : O) (b : List ℕ) (rs : List Record) (p : SentStream) (run : List Delivery)
    → old.sources c.capture ≡ Here source → old.sinks c.out ≡ Here sink → new.sinks c.out ≡ Back filled
    → tells.remaining source ≡ Some b → IsFile (form_of c.session c.pcap) rs b
    → IsCaptureOf (session_read c.session) p run rs
    → HasSteadyTimestamps p → c.drift ≡ false → AreDeliveriesOf (replay_limits c) p run
    → Appends (tells.contents sink) (tells.contents filled) (concat (reached_payloads (replay_limits c) p run))

-- where flows restart they are, epoch after epoch, the payloads of the numbers that were reached in it, for all streams
-- that were sent one after another and every run of copies of their packets, and of other packets that open no epoch,
-- of which the octets of the source, told, are a capture or a pcap file
abbrev pub WritesEpochs : {I O E L C : Type 0} → Tells I O E → Shelf I O E L C → Shelf I O E L C → ReplayCommand
    → Type 0
WritesEpochs {I} {O} tells old new c =
    (source : I) (sink filled : O) (b : List ℕ) (rs : List Record) (streams : SentStreams) (run : List Transfer)
    → old.sources c.capture ≡ Here source → old.sinks c.out ≡ Here sink → new.sinks c.out ≡ Back filled
    → tells.remaining source ≡ Some b → IsFile (form_of c.session c.pcap) rs b
    → IsCaptureOfAll (session_read c.session) streams run rs
    → ((epoch : ℕ) → HasSteadyTimestamps (streams epoch)) → AreTransfersOf (replay_limits c) streams run
    → Appends (tells.contents sink) (tells.contents filled)
    (concat (payloads_of_epochs streams (sent_epochs (replay_limits c) streams run)))

-- of these octets these whole records were read, and then what ends a replay with this status: the end of the file, a
-- fault in it, or a read that failed
abbrev pub AreRead : ReplayCommand → List ℕ → Option (List ℕ) → List Record → Status → Type 0
AreRead c b left records status =
    (end : Result Unit WalkBad) × (status ≡ walk_status end)
    × EndsAfter (form_of c.session c.pcap) 0 b left records end

-- Whole records were read in front of what ended a replay. Whenever they are a capture of a run of copies of what was
-- sent, what the sink gained are the payloads of the numbers that were reached, or those of one epoch after another.
pub record ReachesInFront {I O E : Type 0} (tells : Tells I O E) (c : ReplayCommand) (status : Status) (b : List ℕ)
    (spent : I) (sink filled : O) : Type 0 where
  pub records : List Record
  pub read : AreRead c b (tells.remaining spent) records status
  pub reached : (p : SentStream) (run : List Delivery) → IsCaptureOf (session_read c.session) p run records
      → HasSteadyTimestamps p → c.drift ≡ false → AreDeliveriesOf (replay_limits c) p run
      → Appends (tells.contents sink) (tells.contents filled) (concat (reached_payloads (replay_limits c) p run))
  pub epochs : (streams : SentStreams) (run : List Transfer)
      → IsCaptureOfAll (session_read c.session) streams run records
      → ((epoch : ℕ) → HasSteadyTimestamps (streams epoch)) → AreTransfersOf (replay_limits c) streams run
      → Appends (tells.contents sink) (tells.contents filled)
      (concat (payloads_of_epochs streams (sent_epochs (replay_limits c) streams run)))

-- so of a replay's objects, where its source tells its octets
abbrev pub WritesInFront : {I O E L C : Type 0} → Tells I O E → Shelf I O E L C → Shelf I O E L C → ReplayCommand
    → Status → Type 0
WritesInFront {I} {O} tells old new c status =
    (source spent : I) (sink filled : O) (b : List ℕ) → old.sources c.capture ≡ Here source
    → new.sources c.capture ≡ Back spent → old.sinks c.out ≡ Here sink → new.sinks c.out ≡ Back filled
    → tells.remaining source ≡ Some b → ReachesInFront tells c status b spent sink filled
