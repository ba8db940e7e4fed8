-- Where every link of a run failed, the count of each rose.
use Rattle.std.proofs.Common.{◌≡◌, ◌∙◌, ◌<◌, ℕ, List, length, map, Bool, true, Option, Some, refl, sym, ap, subst}
use Rattle.std.proofs.Common.{slice_get, get_or}
use Rattle.std.proofs.lemmas.List.{length-map, get_or-map}
use Rattle.std.proofs.lemmas.List.Sums.{AllPass-from_list_all}
use Rattle.std.proofs.lemmas.Option.{get_or_from_slice_get}
use Rattle.outside_io.specs.Causes.{Rose, RoseWhere}
use Rattle.rist_desk.specs.declared.ended.Ended.{Ended}
use Rattle.rist_desk.specs.declared.ended.Ended.TheVariants as ends
use Rattle.rist_desk.specs.declared.worker.Worker.{Worker}
use Rattle.rist_desk.specs.Serving.{ServesOn}
use Rattle.rist_desk.specs.Inside.Going.{is_link_failure}
use Rattle.desk_run.specs.declared.ending.Ending.{Ending}
use Rattle.outside_net.specs.Links.{LinkTells}
use Rattle.desk_run.specs.Endings.{all_workers, is_link_failed}
use Rattle.desk_run.specs.Run.{Receives, outside}
use Rattle.desk_run.specs.Setup.{Setup as ReceiveSetup, given_to}
use Rattle.rist_desk.specs.declared.worker.ServingLimits.{ServingLimits as WorkerLimits}
use Rattle.rist_ends.specs.declared.counts.Counts.{Counts}
use Rattle.desk_run.specs.Workers.{ToldTrace, link_of, told_trace}
use Rattle.run_parts.proofs.PlaceLemmas.{at_place}

same_failure : (e : Ended) → is_link_failed (Some e) ≡ is_link_failure (Some e)
same_failure ends.End = refl
same_failure ends.Turns = refl
same_failure ends.Idle = refl
same_failure ends.Failed = refl
same_failure ends.Stopped = refl
same_failure ends.WriteFault = refl
same_failure ends.Spent = refl
same_failure ends.TraceFull = refl

pub rose_by : (b : Bool) (before now : ℕ) → b ≡ true → RoseWhere b before now → Rose before now
rose_by b before now is rose = subst (λ x. RoseWhere x before now) is rose

-- the link of a worker
link_at : {L C : Type 0} (ws : List (Worker L C ToldTrace)) (links : List L) (i : ℕ) (w : Worker L C ToldTrace) → map link_of ws ≡ links → i < length ws → slice_get ws i ≡ Some w
    → get_or links i w.link ≡ w.link
link_at ws links i w are less here =
    ap (λ l. get_or l i w.link) (sym are) ∙ (get_or-map link_of ws i w w.link less ∙ ap link_of (get_or_from_slice_get ws i w w here))

-- where each link failed, the count of each rose
pub failed_at : {L C : Type 0} (moments : C → Option (ℕ → ℕ)) (line : LinkTells L) (s : ReceiveSetup) (limits : WorkerLimits) (links_were links_are : List L) (clocks_were clocks_are : List C)
    (contents_were contents_are : Option (List ℕ)) (faults_were faults_are : ℕ) (counts : Counts) (ending : Ending)
    (run : Receives moments line s limits (outside links_were clocks_were contents_were faults_were) (outside links_are clocks_are contents_are faults_are) counts ending)
    → all_workers is_link_failed run.are ≡ true → (place : ℕ) → place < length links_were
    → (was : L) × (is : L) × (get_or links_were place was ≡ was) × (get_or links_are place is ≡ is) × Rose (line.faults was) (line.faults is)
failed_at {L} {C} moments line s limits links_were links_are clocks_were clocks_are contents_were contents_are faults_were faults_are counts ending run failed place among =
    let many : length run.were ≡ length links_were = sym (length-map run.were link_of) ∙ ap length run.links_had in
    let less : place < length run.were = subst (λ n. place < n) (sym many) among in
    let later : place < length run.are = subst (λ n. place < n) (sym run.as_many) less in
    let was = at_place run.were place less in
    let is = at_place run.are place later in
    let served : ServesOn (given_to s contents_were faults_were) moments line told_trace limits place was.0 is.0 = run.served place was.0 is.0 was.1 is.1 in
    let end : is_link_failed (Some served.made.end) ≡ true =
    ap is_link_failed (sym served.made.ended) ∙ (ap (λ (w : Worker L C ToldTrace). is_link_failed w.end) (sym (get_or_from_slice_get run.are place is.0 is.0 is.1))
    ∙ AllPass-from_list_all (λ (w : Worker L C ToldTrace). is_link_failed w.end) run.are failed place is.0 later) in
    let rose : Rose (line.faults was.0.link) (line.faults is.0.link) =
    rose_by (is_link_failure (Some served.made.end)) (line.faults was.0.link) (line.faults is.0.link) (sym (same_failure served.made.end) ∙ end) served.made.failed_cause in
    (was.0.link, is.0.link, link_at run.were links_were place was.0 run.links_had less was.1, link_at run.are links_are place is.0 run.links_have later is.1, rose)
