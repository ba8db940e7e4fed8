-- What a replay leaves is the exact release set.
use Rattle.std.proofs.Common.{◌≡◌, ℕ, ◌≤◌, List, ◌∷◌, None, Some, Option, IfSome, sym, ap, ◌∙◌, subst, arith, false}
use Rattle.std.specs.Prelude.{Result, Ok, Err}
use Rattle.std.specs.List.{concat}
use Rattle.outside_io.specs.Told.{Passage, Appends}
use Rattle.outside_host.specs.Shelf.{Shelf}
use Rattle.outside_host.specs.declared.host.Place.TheVariants.{Here, Back}
use Rattle.capture_file.specs.Capture.{Record}
use Rattle.block_source.specs.Block.{most_ahead}
use Rattle.capture_walk.specs.Form.{Form, IsFile}
use Rattle.capture_walk.specs.Leaves.{Leaves, EndsAfter}
use Rattle.capture_walk.proofs.FileLemmas.{one_list}
use Rattle.capture_walk.specs.declared.walk_bad.WalkBad.{WalkBad}
use Rattle.capture_walk.specs.declared.walk_bad.WalkBad.TheVariants as walks
use Rattle.receiver_rules.specs.Steps.{end_step}
use Rattle.receiver_rules.specs.History.{released_payloads}
use Rattle.receiver_rules.specs.Sent.{SentStream, Delivery, HasSteadyTimestamps, AreDeliveriesOf}
use Rattle.receiver_rules.proofs.SentLemmas as sent
use Rattle.receiver_rules.specs.SentEpochs.{SentStreams, Transfer, AreTransfersOf, sent_epochs}
use Rattle.receiver_rules.specs.SentEpochs.{reached_payloads as payloads_of_epochs}
use Rattle.receiver_rules.proofs.SentEpochsLemmas as by_epochs
use Rattle.rist_words.specs.CommandLine.{ReplayCommand, Replay}
use Rattle.rist_replay.specs.Replay.{released_so_far, replayed}
use Rattle.rist_replay.specs.Exact.{IsCaptureOf, IsCaptureOfAll, reached_payloads}
use Rattle.run_parts.specs.Sessions.{session_read}
use Rattle.run_files.specs.Sessions.{replay_limits}
use Rattle.run_files.specs.Works.{form_of}
use Rattle.run_parts.specs.Statuses.{walk_status}
use Rattle.run_files.specs.Exact.{ReachesInFront, WritesReached, WritesEpochs, WritesInFront}
use Rattle.run_files.specs.Ran.{Ran}
use Rattle.run_parts.specs.Objects.{Tells, passage}
use Rattle.run_parts.specs.declared.status.Status.{Status}
use Rattle.run_parts.specs.declared.status.Status.TheVariants as statuses
use Rattle.run_parts.proofs.PlaceLemmas.{same_here, same_back}

-- a walk that is Done ended well
done_walk : (form : Form) (so_far whole : List Record → List ℕ) (p : Passage) (end : Result Unit WalkBad) → statuses.Done ≡ walk_status end → Leaves form so_far whole most_ahead p end
    → IfSome p.had (λ b. (rs : List Record) × IsFile form rs b × Appends p.held p.holds (whole rs))
done_walk form so_far whole p (Ok x) e left = by_told p.had left
  where
    by_told : (had : Option (List ℕ)) → IfSome had (λ b. (rs : List Record) × EndsAfter form 0 b p.left rs (Ok tt) × Appends p.held p.holds (whole rs))
        → IfSome had (λ b. (rs : List Record) × IsFile form rs b × Appends p.held p.holds (whole rs))
    by_told None left = tt
    by_told (Some b) left = (left.0, left.1.1, left.2)
done_walk form so_far whole p (Err (walks.BadCapture kind at)) e left = cc
done_walk form so_far whole p (Err (walks.BadPcap kind at)) e left = cc
done_walk form so_far whole p (Err walks.TooLong) e left = cc
done_walk form so_far whole p (Err walks.ReadFault) e left = cc
done_walk form so_far whole p (Err walks.WriteFault) e left = cc
done_walk form so_far whole p (Err walks.Memory) e left = cc

pub released : (c : ReplayCommand) (rs : List Record) (p : SentStream) (run : List Delivery) → 1 ≤ c.delay → IsCaptureOf (session_read c.session) p run rs → HasSteadyTimestamps p → c.drift ≡ false → AreDeliveriesOf (replay_limits c) p run
    → replayed (session_read c.session) (replay_limits c) rs ≡ concat (reached_payloads (replay_limits c) p run)
released c rs p run some is steady stays honest =
    ap (λ h. concat (released_payloads (replay_limits c) (end_step ∷ h))) is ∙ ap concat (sent.release_set (replay_limits c) p run steady (omega arith) stays honest)

pub released_epochs : (c : ReplayCommand) (rs : List Record) (streams : SentStreams) (run : List Transfer) → 1 ≤ c.delay → IsCaptureOfAll (session_read c.session) streams run rs → ((epoch : ℕ) → HasSteadyTimestamps (streams epoch)) → AreTransfersOf (replay_limits c) streams run
    → replayed (session_read c.session) (replay_limits c) rs ≡ concat (payloads_of_epochs streams (sent_epochs (replay_limits c) streams run))
released_epochs c rs streams run some is steady are =
    ap (λ h. concat (released_payloads (replay_limits c) (end_step ∷ h))) is ∙ ap concat (by_epochs.release_set (replay_limits c) streams run steady (omega arith) are)

done_written : (c : ReplayCommand) (first old new : Option (List ℕ)) (b : List ℕ) (rs : List Record) → first ≡ Some b
    → IfSome first (λ b. (rs : List Record) × IsFile (form_of c.session c.pcap) rs b × Appends old new (replayed (session_read c.session) (replay_limits c) rs))
    → IsFile (form_of c.session c.pcap) rs b → Appends old new (replayed (session_read c.session) (replay_limits c) rs)
done_written c first old new b rs told work capture =
    let here = subst (λ o. IfSome o (λ b. (rs : List Record) × IsFile (form_of c.session c.pcap) rs b × Appends old new (replayed (session_read c.session) (replay_limits c) rs))) told work in
    let same : here.0 ≡ rs = one_list (form_of c.session c.pcap) b here.0 rs here.1 capture in
    subst (Appends old new) (ap (replayed (session_read c.session) (replay_limits c)) same) here.2

-- what a replay that is Done has written
ran_written : {I O E L C : Type 0} (tells : Tells I O E) (old new : Shelf I O E L C) (c : ReplayCommand) (status : Status) → status ≡ statuses.Done → Ran tells old new (Replay c) status
    → (source : I) (sink filled : O) (b : List ℕ) (rs : List Record) → old.sources c.capture ≡ Here source → old.sinks c.out ≡ Here sink → new.sinks c.out ≡ Back filled
    → tells.remaining source ≡ Some b → IsFile (form_of c.session c.pcap) rs b → Appends (tells.contents sink) (tells.contents filled) (replayed (session_read c.session) (replay_limits c) rs)
ran_written tells old new c status done ran source sink filled b rs here_source here_sink back_sink told is_capture =
    let r = subst (λ s. Ran tells old new (Replay c) s) done ran in
    let source_is = same_here r.source source (sym r.took_source ∙ here_source) in
    let sink_is = same_here r.sink sink (sym r.took_sink ∙ here_sink) in
    let filled_is = same_back r.filled filled (sym r.gave_sink ∙ back_sink) in
    let left = done_walk (form_of c.session c.pcap) (released_so_far (session_read c.session) (replay_limits c)) (replayed (session_read c.session) (replay_limits c)) (passage tells r.source r.spent r.sink r.filled) r.work.0 r.work.1 r.work.2 in
    subst (λ o. Appends (tells.contents o) (tells.contents filled) (replayed (session_read c.session) (replay_limits c) rs)) sink_is
    (subst (λ o. Appends (tells.contents r.sink) (tells.contents o) (replayed (session_read c.session) (replay_limits c) rs)) filled_is
    (done_written c (tells.remaining r.source) (tells.contents r.sink) (tells.contents r.filled) b rs (ap tells.remaining source_is ∙ told) left is_capture))

pub ran_reached : {I O E L C : Type 0} (tells : Tells I O E) (old new : Shelf I O E L C) (c : ReplayCommand) (status : Status)
    → 1 ≤ c.delay → status ≡ statuses.Done → Ran tells old new (Replay c) status → WritesReached tells old new c
ran_reached tells old new c status some done ran source sink filled b rs p run here_source here_sink back_sink told is_capture is steady stays honest =
    subst (Appends (tells.contents sink) (tells.contents filled)) (released c rs p run some is steady stays honest)
    (ran_written tells old new c status done ran source sink filled b rs here_source here_sink back_sink told is_capture)

pub ran_epochs : {I O E L C : Type 0} (tells : Tells I O E) (old new : Shelf I O E L C) (c : ReplayCommand) (status : Status)
    → 1 ≤ c.delay → status ≡ statuses.Done → Ran tells old new (Replay c) status → WritesEpochs tells old new c
ran_epochs tells old new c status some done ran source sink filled b rs streams run here_source here_sink back_sink told is_capture is steady are =
    subst (Appends (tells.contents sink) (tells.contents filled)) (released_epochs c rs streams run some is steady are)
    (ran_written tells old new c status done ran source sink filled b rs here_source here_sink back_sink told is_capture)

-- ---- in front of what ended it

-- a walk that brought its end
front_walk : (form : Form) (so_far whole : List Record → List ℕ) (p : Passage) (status : Status) (end : Result Unit WalkBad) → status ≡ walk_status end → (status ≡ statuses.Memory → ⊥) → (status ≡ statuses.WriteFault → ⊥)
    → Leaves form so_far whole most_ahead p end → IfSome p.had (λ b. (rs : List Record) × EndsAfter form 0 b p.left rs end × Appends p.held p.holds (whole rs))
front_walk form so_far whole p status (Ok x) e memory fault left = left
front_walk form so_far whole p status (Err (walks.BadCapture kind at)) e memory fault left = left
front_walk form so_far whole p status (Err (walks.BadPcap kind at)) e memory fault left = left
front_walk form so_far whole p status (Err walks.TooLong) e memory fault left = left
front_walk form so_far whole p status (Err walks.ReadFault) e memory fault left = left
front_walk form so_far whole p status (Err walks.WriteFault) e memory fault left = absurd (fault e)
front_walk form so_far whole p status (Err walks.Memory) e memory fault left = absurd (memory e)

front_own : {I O E L C : Type 0} (tells : Tells I O E) (old new : Shelf I O E L C) (c : ReplayCommand) (status : Status) (b : List ℕ) → 1 ≤ c.delay
    → (status ≡ statuses.Memory → ⊥) → (status ≡ statuses.WriteFault → ⊥) → (r : Ran tells old new (Replay c) status) → tells.remaining r.source ≡ Some b
    → ReachesInFront tells c status b r.spent r.sink r.filled
front_own tells old new c status b some memory fault r told =
    let form = form_of c.session c.pcap in
    let whole = replayed (session_read c.session) (replay_limits c) in
    let left = front_walk form (released_so_far (session_read c.session) (replay_limits c)) whole (passage tells r.source r.spent r.sink r.filled) status r.work.0 r.work.1 memory fault r.work.2 in
    let here = subst (λ o. IfSome o (λ b. (rs : List Record) × EndsAfter form 0 b (tells.remaining r.spent) rs r.work.0 × Appends (tells.contents r.sink) (tells.contents r.filled) (whole rs))) told left in
    record {
      records = here.0;
      read = (r.work.0, r.work.1, here.1);
      reached = λ p run is steady stays honest. subst (Appends (tells.contents r.sink) (tells.contents r.filled)) (released c here.0 p run some is steady stays honest) here.2;
      epochs = λ streams run is steady are. subst (Appends (tells.contents r.sink) (tells.contents r.filled)) (released_epochs c here.0 streams run some is steady are) here.2;
    }

pub ran_front : {I O E L C : Type 0} (tells : Tells I O E) (old new : Shelf I O E L C) (c : ReplayCommand) (status : Status) → 1 ≤ c.delay
    → (status ≡ statuses.Memory → ⊥) → (status ≡ statuses.WriteFault → ⊥) → Ran tells old new (Replay c) status → WritesInFront tells old new c status
ran_front tells old new c status some memory fault r source spent sink filled b here_source back_source here_sink back_sink told =
    let source_is = same_here r.source source (sym r.took_source ∙ here_source) in
    let spent_is = same_back r.spent spent (sym r.gave_source ∙ back_source) in
    let sink_is = same_here r.sink sink (sym r.took_sink ∙ here_sink) in
    let filled_is = same_back r.filled filled (sym r.gave_sink ∙ back_sink) in
    let own = front_own tells old new c status b some memory fault r (ap tells.remaining source_is ∙ told) in
    subst (λ o. ReachesInFront tells c status b o sink filled) spent_is
    (subst (λ o. ReachesInFront tells c status b r.spent o filled) sink_is
    (subst (λ o. ReachesInFront tells c status b r.spent r.sink o) filled_is own))
