-- How a run over links ends is a status of a gateway.
use Rattle.std.proofs.Common.{◌≡◌, List, Option, refl, sym, subst}
use Rattle.psk_seal.specs.Sealer.{SealerState}
use Rattle.rist_ends.specs.declared.counts.Counts.{Counts}
use Rattle.rist_gateway.specs.declared.ending.GateEnding.{GateEnding}
use Rattle.rist_gateway.specs.declared.ending.GateEnding.TheVariants as gates
use Rattle.rist_gateway.specs.Run.{EndsGate}
use Rattle.rist_words.specs.CommandLine.{GateCommand}
use Rattle.run_parts.specs.Objects.{TellsLive}
use Rattle.run_parts.specs.declared.status.Status.{Status}
use Rattle.run_links.proofs.KeptLemmas.{no_limit}
use Rattle.run_gate.specs.Ends.{IsGateEnd}
use Rattle.run_gate.specs.Gated.{gate_status}
use Rattle.run_gate.specs.Inside.Gating.{GatesAs}
use Rattle.run_gate.proofs.GatingLemmas.{full_by, torn_by}

-- how a run on links ends
pub gated_ends : {L C : Type 0} (live : TellsLive L C) (c : GateCommand) (receiving sending : Option SealerState) (links_were links_are : List L) (clocks_were clocks_are : List C) (counts : Counts) (status : Status)
    → GatesAs live c receiving sending links_were links_are clocks_were clocks_are counts status → IsGateEnd c status
gated_ends live c receiving sending links_were links_are clocks_were clocks_are counts status r = subst (IsGateEnd c) (sym r.answer) (by_ending r.ending refl)
  where
    by_ending : (ending : GateEnding) → r.ending ≡ ending → IsGateEnd c (gate_status ending)
    by_ending gates.Done is = tt
    by_ending gates.LinksDown is = tt
    by_ending gates.Spent is = tt
    by_ending gates.TraceFull is =
        let run = r.run in
        let full = full_by run.ended run.last.put_bad run.last.aside_bad (subst (EndsGate run.ended run.last.put_bad run.last.aside_bad) is run.ends) in
        λ zero. (run.receives.sure (no_limit c.serving.keep zero) refl).room full
    by_ending (gates.Torn tear) is =
        let run = r.run in
        let torn = torn_by tear run.ended run.last.put_bad run.last.aside_bad (subst (EndsGate run.ended run.last.put_bad run.last.aside_bad) is run.ends) in
        λ zero. (run.receives.sure (no_limit c.serving.keep zero) refl).whole tear torn
