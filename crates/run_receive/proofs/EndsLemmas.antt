-- How a run over links ends is a status of a receiving.
use Rattle.std.proofs.Common.{◌≡◌, ◌∙◌, List, Option, true, is_some, refl, sym, subst, ℕ}
use Rattle.psk_seal.specs.Sealer.{SealerState}
use Rattle.rist_ends.specs.declared.counts.Counts.{Counts}
use Rattle.desk_run.specs.declared.ending.Ending.{Ending}
use Rattle.desk_run.specs.declared.ending.Ending.TheVariants as endings
use Rattle.desk_run.specs.Run.{Receives, outside}
use Rattle.desk_run.proofs.RunLemmas.{keyed_where_spent}
use Rattle.rist_words.specs.CommandLine.{RecvCommand}
use Rattle.run_parts.specs.Objects.{TellsLive}
use Rattle.run_parts.specs.Sealing.{IsFreshFor}
use Rattle.run_parts.specs.declared.status.Status.{Status}
use Rattle.run_links.proofs.KeptLemmas.{no_limit}
use Rattle.run_receive.specs.Ends.{IsReceiveEnd}
use Rattle.run_receive.specs.Inside.Receiving.{ReceivesAs}
use Rattle.run_receive.specs.Received.{receive_status}
use Rattle.run_receive.specs.Sessions.{limits_received, setup_received}

-- how a run on links ends
pub received_ends : {L C : Type 0} (live : TellsLive L C) (c : RecvCommand) (sealer : Option SealerState) (links_were links_are : List L) (clocks_were clocks_are : List C) (contents_were contents_are : Option (List ℕ))
    (faults_were faults_are : ℕ) (counts : Counts) (status : Status) → IsFreshFor c.session sealer → ReceivesAs live c sealer links_were links_are clocks_were clocks_are contents_were contents_are faults_were faults_are counts status
    → IsReceiveEnd c status
received_ends live c sealer links_were links_are clocks_were clocks_are contents_were contents_are faults_were faults_are counts status fresh r =
    subst (IsReceiveEnd c) (sym r.answer) (by_ending r.ending refl)
  where
    by_ending : (ending : Ending) → r.ending ≡ ending → IsReceiveEnd c (receive_status ending)
    by_ending endings.Done is = tt
    by_ending endings.WriteFault is = tt
    by_ending endings.LinksDown is = tt
    by_ending endings.Spent is =
        sym fresh.paired
        ∙ keyed_where_spent live.moments live.line (setup_received c sealer) (limits_received c) (outside links_were clocks_were contents_were faults_were) (outside links_are clocks_are contents_are faults_are) counts
        (subst (λ (e : Ending). Receives live.moments live.line (setup_received c sealer) (limits_received c) (outside links_were clocks_were contents_were faults_were) (outside links_are clocks_are contents_are faults_are) counts e) is r.run) refl
    by_ending endings.TraceFull is = λ zero. (r.run.sure (no_limit c.serving.keep zero) refl).room is
    by_ending (endings.Torn tear) is = λ zero. (r.run.sure (no_limit c.serving.keep zero) refl).whole tear is
