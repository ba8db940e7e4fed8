-- A receiving in which nothing fails but links, of which one doesn't, comes to its end.
use Rattle.std.proofs.Common.{◌≡◌, ◌∙◌, ◌⊎◌, ◌<◌, length, is_some, true, refl, sym, ap, subst}
use mathlib.Core.Logic.{inl, inr}
use Rattle.outside_host.specs.Shelf.{Shelf}
use Rattle.outside_host.specs.declared.host.Place.TheVariants.{Here, Back}
use Rattle.rist_desk.specs.declared.ended.Ended.TheVariants as ends
use Rattle.desk_run.specs.declared.ending.Ending.{Ending}
use Rattle.desk_run.specs.declared.ending.Ending.TheVariants as endings
use Rattle.desk_run.specs.Endings.{all_workers, is_link_failed, is_write_fault}
use Rattle.desk_run.specs.Run.{EndsAs, Receives, outside}
use Rattle.desk_run.specs.Setup.{given_to}
use Rattle.rist_words.specs.CommandLine.{RecvCommand}
use Rattle.run_parts.specs.Causes.{CanRefuse}
use Rattle.run_receive.specs.Complete.{CompletesReceiving, IsHeard, NoWriteFailed}
use Rattle.run_parts.specs.Complete.{StaysUp}
use Rattle.run_parts.specs.Objects.{Tells, TellsLive}
use Rattle.run_receive.specs.Received.{Received, receive_status}
use Rattle.run_parts.specs.Sealing.{FailedAt}
use Rattle.run_receive.specs.Sessions.{setup_received, limits_received}
use Rattle.run_parts.specs.declared.status.Status.{Status}
use Rattle.run_parts.specs.declared.status.Status.TheVariants as statuses
use Rattle.run_parts.proofs.RefusalLemmas.{is_refused}
use Rattle.desk_run.proofs.RunLemmas.{keyed_where_spent}
use Rattle.run_links.proofs.FailedLemmas.{rose_by, failed_at}
use Rattle.run_links.proofs.KeptLemmas.{no_limit}

each_failed : {I O E L C : Type 0} (tells : Tells I O E) (live : TellsLive L C) (old new : Shelf I O E L C) (c : RecvCommand) (status : Status) (r : Received tells live old new c status)
    → all_workers is_link_failed r.run.are ≡ true → StaysUp live.line old.links new.links (length c.links) → ⊥
each_failed tells live old new c status r failed stays =
    let among : stays.place < length r.links_were = subst (λ n. stays.place < n) (sym r.link_count) stays.among in
    let f = failed_at live.moments live.line (setup_received c r.sealer) (limits_received c) r.links_were r.links_are r.clocks_were r.clocks_are
    (tells.contents r.sink) (tells.contents r.filled) (tells.write_faults r.sink) (tells.write_faults r.filled) r.counts r.ending r.run failed stays.place among in
    stays.up f.0 f.1 (r.links.took stays.place f.0 among ∙ ap Here f.2) (r.links.gave stays.place f.1 among ∙ ap Back f.3) f.4

-- pairs were wanting, so there was a sealer
keyed_by : {I O E L C : Type 0} (tells : Tells I O E) (live : TellsLive L C) (old new : Shelf I O E L C) (c : RecvCommand) (status : Status) (r : Received tells live old new c status)
    → r.ending ≡ endings.Spent → is_some c.session.pass ≡ true
keyed_by tells live old new c status r is =
    sym r.fresh.paired
    ∙ keyed_where_spent live.moments live.line (setup_received c r.sealer) (limits_received c)
    (outside r.links_were r.clocks_were (tells.contents r.sink) (tells.write_faults r.sink)) (outside r.links_are r.clocks_are (tells.contents r.filled) (tells.write_faults r.filled)) r.counts
    (subst (λ (e : Ending). Receives live.moments live.line (setup_received c r.sealer) (limits_received c) (outside r.links_were r.clocks_were (tells.contents r.sink) (tells.write_faults r.sink)) (outside r.links_are r.clocks_are (tells.contents r.filled) (tells.write_faults r.filled)) r.counts e) is r.run) refl

spent_ended : (end : Ending) → receive_status end ≡ statuses.Spent → end ≡ endings.Spent
spent_ended endings.Done is = absurd (cc (is))
spent_ended endings.Spent is = refl
spent_ended endings.TraceFull is = absurd (cc (is))
spent_ended (endings.Torn tear) is = absurd (cc (is))
spent_ended endings.WriteFault is = absurd (cc (is))
spent_ended endings.LinksDown is = absurd (cc (is))

not_refused : (s : Status) → s ≡ statuses.Spent → CanRefuse s → ⊥
not_refused s is (inl opened) = cc (is, opened)
not_refused s is (inr (inl memory)) = cc (is, memory)
not_refused s is (inr (inr words)) = cc (is, words)

-- a receiving is in want of pairs only under a passphrase
pub received_spent : {I O E L C : Type 0} (tells : Tells I O E) (live : TellsLive L C) (old new : Shelf I O E L C) (c : RecvCommand) (status : Status)
    → ((CanRefuse status → ⊥) → Received tells live old new c status) → status ≡ statuses.Spent → is_some c.session.pass ≡ true
received_spent tells live old new c status received is =
    let r = received (not_refused status is) in
    keyed_by tells live old new c status r (spent_ended r.ending (sym r.answer ∙ is))

ended_by : {I O E L C : Type 0} (tells : Tells I O E) (live : TellsLive L C) (old new : Shelf I O E L C) (c : RecvCommand) (status : Status) (r : Received tells live old new c status) (end : Ending)
    → r.ending ≡ end → status ≡ receive_status end → NoWriteFailed tells old new c → StaysUp live.line old.links new.links (length c.links) → IsHeard c status
ended_by tells live old new c status r endings.Done is answer none stays = inl answer
ended_by tells live old new c status r endings.Spent is answer none stays = inr (inl (answer, keyed_by tells live old new c status r is))
ended_by tells live old new c status r endings.TraceFull is answer none stays =
    inr (inr (inr (λ zero. (r.run.sure (no_limit c.serving.keep zero) refl).room is, inl answer)))
ended_by tells live old new c status r (endings.Torn tear) is answer none stays =
    inr (inr (inr (λ zero. (r.run.sure (no_limit c.serving.keep zero) refl).whole tear is, inr (tear, answer))))
ended_by tells live old new c status r endings.WriteFault is answer none stays =
    absurd (none.writes r.sink r.filled r.took r.gave
    (rose_by (is_write_fault r.ending) (tells.write_faults r.sink) (tells.write_faults r.filled) (ap is_write_fault is) r.run.fault))
ended_by tells live old new c status r endings.LinksDown is answer none stays =
    let run = r.run in
    absurd (each_failed tells live old new c status r
    (subst (λ e. EndsAs e (given_to (setup_received c r.sealer) (tells.contents r.sink) (tells.write_faults r.sink)) run.desk run.are r.counts) is run.ends).1
    stays)

refused_ends : (c : RecvCommand) (s : Status) → (s ≡ statuses.OpenFault → ⊥) → (s ≡ statuses.EntropyFault → ⊥) → CanRefuse s → IsHeard c s
refused_ends c s opened words (inl e) = absurd (opened e)
refused_ends c s opened words (inr (inl e)) = inr (inr (inl e))
refused_ends c s opened words (inr (inr e)) = absurd (words e)

pub received_completes : {I O E L C : Type 0} (tells : Tells I O E) (live : TellsLive L C) (old new : Shelf I O E L C) (c : RecvCommand) (status : Status)
    → (status ≡ statuses.OpenFault → ⊥) → (status ≡ statuses.EntropyFault → FailedAt tells old new) → ((CanRefuse status → ⊥) → Received tells live old new c status)
    → CompletesReceiving tells live.line old new c status
received_completes tells live old new c status opened words received none stays = by_refusal (is_refused status)
  where
    by_refusal : CanRefuse status ⊎ (CanRefuse status → ⊥) → IsHeard c status
    by_refusal (inl refused) = refused_ends c status opened (λ e. none.words (words e)) refused
    by_refusal (inr ran) =
        let r = received ran in
        ended_by tells live old new c status r r.ending refl r.answer none stays
