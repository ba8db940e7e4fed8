-- What a replay leaves where a write failed is a front part of the release set of the records that were read.
use Rattle.std.proofs.Common.{◌≡◌, ◌∙◌, ℕ, List, [], ◌∷◌, ◌++◌, Option, Some, None, IfSome, ◌≤◌, sym, ap, subst, append_assoc, append-nil, ◌⊎◌}
use mathlib.Core.Logic.{inl, inr}
use Rattle.std.specs.Prelude.{Result, Ok, Err}
use Rattle.std.specs.List.{concat}
use Rattle.outside_io.specs.Told.{AppendsBetween, AppendsPart, IsPrefix, Passage}
use Rattle.outside_host.specs.Shelf.{Shelf}
use Rattle.outside_host.specs.declared.host.Place.TheVariants.{Here, Back}
use Rattle.block_source.specs.Block.{most_ahead}
use Rattle.capture_file.specs.Capture.{Record}
use Rattle.capture_walk.specs.Form.{Form}
use Rattle.capture_walk.specs.Leaves.{EndsAfter, FailsAtEnd, FailsAtRecord, HasGiven, Leaves}
use Rattle.capture_walk.specs.declared.walk_bad.WalkBad.{WalkBad}
use Rattle.capture_walk.specs.declared.walk_bad.WalkBad.TheVariants as walks
use Rattle.rist_words.specs.CommandLine.{ReplayCommand, Replay}
use Rattle.rist_replay.specs.Replay.{released_so_far, replayed}
use Rattle.rist_replay.proofs.ReplayLemmas.{front_of_whole}
use Rattle.run_parts.specs.Objects.{Tells, passage}
use Rattle.run_parts.specs.Sessions.{session_read}
use Rattle.run_parts.specs.Statuses.{walk_status}
use Rattle.run_parts.specs.declared.status.Status.{Status}
use Rattle.run_parts.specs.declared.status.Status.TheVariants as statuses
use Rattle.run_parts.proofs.PlaceLemmas.{same_here, same_back}
use Rattle.run_files.specs.CutOff.{AreReadSoFar, ReachesPart, WritesPartReached}
use Rattle.run_files.specs.Ran.{Ran}
use Rattle.run_files.specs.Sessions.{replay_limits}
use Rattle.run_files.specs.Works.{form_of}
use Rattle.run_files.proofs.ExactLemmas.{released, released_epochs}

prefix_on : (a b c : List ℕ) → IsPrefix a b → IsPrefix b c → IsPrefix a c
prefix_on a b c p q = (p.0 ++ q.0, q.1 ∙ (ap (λ (l : List ℕ). l ++ q.0) p.1 ∙ append_assoc a p.0 q.0))

part_of : (old new : Option (List ℕ)) (first middle whole : List ℕ) → AppendsBetween old new first middle → IsPrefix middle whole → AppendsPart old new whole
part_of old new first middle whole w more = (w.0, prefix_on w.0 middle whole w.3 more, w.1)

-- what a walk has written that a failed write ended, where all that it writes is a front part of the whole
part_walk : (form : Form) (so_far whole : List Record → List ℕ) (p : Passage) (end : Result Unit WalkBad) → ((rs : List Record) → IsPrefix (so_far rs) (whole rs)) → statuses.WriteFault ≡ walk_status end
    → Leaves form so_far whole most_ahead p end
    → IfSome p.had (λ b. (rs : List Record) × (HasGiven form most_ahead rs b p.left ⊎ ((e : Result Unit WalkBad) × EndsAfter form most_ahead b p.left rs e)) × AppendsPart p.held p.holds (whole rs))
part_walk form so_far whole p (Err walks.WriteFault) grows is left = by_told p.had left
  where
    by_fault : (b : List ℕ) → FailsAtRecord form so_far most_ahead b p ⊎ FailsAtEnd form so_far whole most_ahead b p
        → (rs : List Record) × (HasGiven form most_ahead rs b p.left ⊎ ((e : Result Unit WalkBad) × EndsAfter form most_ahead b p.left rs e)) × AppendsPart p.held p.holds (whole rs)
    by_fault b (inl failed) =
        let rs = failed.done ++ failed.last ∷ [] in (
          rs,
          inl failed.read,
          part_of p.held p.holds (so_far failed.done) (so_far rs) (whole rs) failed.written (grows rs),
        )
    by_fault b (inr failed) = (
      failed.done,
      inr (failed.end, failed.ended),
      part_of p.held p.holds (so_far failed.done) (whole failed.done) (whole failed.done) failed.written ([], sym (append-nil (whole failed.done))),
    )

    by_told : (had : Option (List ℕ)) → IfSome had (λ b. FailsAtRecord form so_far most_ahead b p ⊎ FailsAtEnd form so_far whole most_ahead b p)
        → IfSome had (λ b. (rs : List Record) × (HasGiven form most_ahead rs b p.left ⊎ ((e : Result Unit WalkBad) × EndsAfter form most_ahead b p.left rs e)) × AppendsPart p.held p.holds (whole rs))
    by_told None left = tt
    by_told (Some b) left = by_fault b left
part_walk form so_far whole p (Ok x) grows is left = cc
part_walk form so_far whole p (Err (walks.BadCapture kind at)) grows is left = cc
part_walk form so_far whole p (Err (walks.BadPcap kind at)) grows is left = cc
part_walk form so_far whole p (Err walks.TooLong) grows is left = cc
part_walk form so_far whole p (Err walks.ReadFault) grows is left = cc
part_walk form so_far whole p (Err walks.Memory) grows is left = cc

part_own : {I O E L C : Type 0} (tells : Tells I O E) (old new : Shelf I O E L C) (c : ReplayCommand) (status : Status) (b : List ℕ) → 1 ≤ c.delay
    → status ≡ statuses.WriteFault → (r : Ran tells old new (Replay c) status) → tells.remaining r.source ≡ Some b
    → ReachesPart tells c b r.spent r.sink r.filled
part_own tells old new c status b some fault r told =
    let form = form_of c.session c.pcap in
    let so_far = released_so_far (session_read c.session) (replay_limits c) in
    let whole = replayed (session_read c.session) (replay_limits c) in
    let left = part_walk form so_far whole (passage tells r.source r.spent r.sink r.filled) r.work.0 (front_of_whole (session_read c.session) (replay_limits c)) (sym fault ∙ r.work.1) r.work.2 in
    let here = subst (λ o. IfSome o (λ b. (rs : List Record) × (HasGiven form most_ahead rs b (tells.remaining r.spent) ⊎ ((e : Result Unit WalkBad) × EndsAfter form most_ahead b (tells.remaining r.spent) rs e)) × AppendsPart (tells.contents r.sink) (tells.contents r.filled) (whole rs))) told left in
    record {
      records = here.0;
      read = here.1;
      reached = λ p run is steady stays honest. subst (AppendsPart (tells.contents r.sink) (tells.contents r.filled)) (released c here.0 p run some is steady stays honest) here.2;
      epochs = λ streams run is steady are. subst (AppendsPart (tells.contents r.sink) (tells.contents r.filled)) (released_epochs c here.0 streams run some is steady are) here.2;
    }

pub ran_part : {I O E L C : Type 0} (tells : Tells I O E) (old new : Shelf I O E L C) (c : ReplayCommand) (status : Status) → 1 ≤ c.delay
    → status ≡ statuses.WriteFault → Ran tells old new (Replay c) status → WritesPartReached tells old new c
ran_part tells old new c status some fault r source spent sink filled b here_source back_source here_sink back_sink told =
    let source_is = same_here r.source source (sym r.took_source ∙ here_source) in
    let spent_is = same_back r.spent spent (sym r.gave_source ∙ back_source) in
    let sink_is = same_here r.sink sink (sym r.took_sink ∙ here_sink) in
    let filled_is = same_back r.filled filled (sym r.gave_sink ∙ back_sink) in
    let own = part_own tells old new c status b some fault r (ap tells.remaining source_is ∙ told) in
    subst (λ o. ReachesPart tells c b o sink filled) spent_is
    (subst (λ o. ReachesPart tells c b r.spent o filled) sink_is
    (subst (λ o. ReachesPart tells c b r.spent r.sink o) filled_is own))
