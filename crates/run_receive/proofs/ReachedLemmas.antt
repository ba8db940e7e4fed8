-- What a receiving leaves is the exact release set of one history.
use Rattle.std.proofs.Common.{◌≡◌, ◌∙◌, ◌<◌, List, length, refl, sym, ap, subst}
use mathlib.Core.Logic.{inl, inr}
use Rattle.outside_host.specs.Shelf.{Shelf}
use Rattle.rist_ends.specs.declared.counts.Counts.{Counts}
use Rattle.rist_desk.specs.declared.worker.Worker.{Worker}
use Rattle.rist_desk.specs.Desk.{DeskState, Given}
use Rattle.desk_run.specs.declared.ending.Ending.{Ending}
use Rattle.desk_run.specs.declared.ending.Ending.TheVariants as endings
use Rattle.desk_run.specs.Run.{EndsAs, IsExact, told_lists}
use Rattle.desk_run.specs.Setup.{given_to}
use Rattle.desk_run.specs.Workers.{ToldTrace}
use Rattle.rist_words.specs.CommandLine.{RecvCommand}
use Rattle.run_parts.specs.Causes.{CanRefuse}
use Rattle.run_parts.specs.Objects.{Tells, TellsLive}
use Rattle.run_receive.specs.Reached.{IsPlayedOut, ReceivesReached}
use Rattle.run_receive.specs.Received.{Received, receive_status}
use Rattle.run_receive.specs.Sessions.{limits_received, setup_received}
use Rattle.run_parts.specs.declared.status.Status.{Status}
use Rattle.run_parts.proofs.PlaceLemmas.{same_back, same_here}
use Rattle.run_links.proofs.BroughtLemmas.{before_is, brought, is_brought}

-- a played out receiving is exact
exact_by : {L C : Type 0} (status : Status) (ending : Ending) (given : Given) (desk : DeskState) (workers : List (Worker L C ToldTrace)) (counts : Counts)
    → status ≡ receive_status ending → IsPlayedOut status → EndsAs ending given desk workers counts → IsExact given desk (told_lists workers) counts
exact_by status endings.Done given desk workers counts is out ends = ends.2
exact_by status endings.LinksDown given desk workers counts is out ends = ends.2
exact_by status endings.WriteFault given desk workers counts is (inl out) ends = absurd (cc (is, out))
exact_by status endings.WriteFault given desk workers counts is (inr out) ends = absurd (cc (is, out))
exact_by status endings.Spent given desk workers counts is (inl out) ends = absurd (cc (is, out))
exact_by status endings.Spent given desk workers counts is (inr out) ends = absurd (cc (is, out))
exact_by status endings.TraceFull given desk workers counts is (inl out) ends = absurd (cc (is, out))
exact_by status endings.TraceFull given desk workers counts is (inr out) ends = absurd (cc (is, out))
exact_by status (endings.Torn tear) given desk workers counts is (inl out) ends = absurd (cc (is, out))
exact_by status (endings.Torn tear) given desk workers counts is (inr out) ends = absurd (cc (is, out))

played_out : (status : Status) → IsPlayedOut status → CanRefuse status → ⊥
played_out status (inl out) (inl x) = cc
played_out status (inl out) (inr (inl x)) = cc
played_out status (inl out) (inr (inr x)) = cc
played_out status (inr out) (inl x) = cc
played_out status (inr out) (inr (inl x)) = cc
played_out status (inr out) (inr (inr x)) = cc

pub received_reached : {I O E L C : Type 0} (tells : Tells I O E) (live : TellsLive L C) (old new : Shelf I O E L C) (c : RecvCommand) (status : Status)
    → IsPlayedOut status → ((CanRefuse status → ⊥) → Received tells live old new c status) → ReceivesReached tells live old new c
unfolding is_brought
received_reached tells live old new c status out received =
    let r = received (played_out status out) in
    let run = r.run in
    let s = setup_received c r.sealer in
    let given = given_to s (tells.contents r.sink) (tells.write_faults r.sink) in
    let exact : IsExact given run.desk (told_lists run.are) r.counts =
    exact_by status r.ending given run.desk run.are r.counts r.answer out run.ends in
    let before = before_is run.desk.kept exact.received.before exact.received.whole.ended run.tells_steps in
    record {
      brought = is_brought live s (limits_received c) r.links_were r.links_are r.clocks_were r.clocks_are (tells.contents r.sink) (tells.contents r.filled)
          (tells.write_faults r.sink) (tells.write_faults r.filled) r.counts r.ending run refl old (length c.links) exact.received.before r.link_count
          (λ place link inside here. same_here _ _ (sym (r.links.took place link (subst (λ n. place < n) (sym r.link_count) inside)) ∙ here))
          (λ place clock inside among there. same_here _ _ (sym (r.clocks.took place clock among) ∙ there)) exact.received.agree;
      reached = λ filled octets p sent_run back told is steady stays honest.
          exact.reached _ octets p sent_run before
          (run.contents ∙ (ap tells.contents (same_back r.filled filled (sym r.gave ∙ back)) ∙ told)) is steady stays honest;
      epochs = λ filled octets streams sent_run back told is steady are.
          exact.epochs _ octets streams sent_run before
          (run.contents ∙ (ap tells.contents (same_back r.filled filled (sym r.gave ∙ back)) ∙ told)) is steady are;
    }
