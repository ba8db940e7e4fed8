-- What a gateway sends on is the exact release set of one history.
use Rattle.std.proofs.Common.{◌≡◌, ◌∙◌, ◌<◌, ◌≤◌, [], length, take, Option, None, Some, refl, sym, subst, arith}
use Rattle.std.proofs.lemmas.List.{get_or-take, length-take, length-take-le}
use mathlib.Core.Logic.{inl, inr}
use Rattle.outside_host.specs.Shelf.{Shelf}
use Rattle.desk_run.specs.declared.ending.Ending.{Ending}
use Rattle.desk_run.specs.declared.ending.Ending.TheVariants as endings
use Rattle.desk_run.specs.Run.{EndsAs, IsExact, told_lists}
use Rattle.desk_run.specs.Setup.{given_to}
use Rattle.rist_gateway.specs.declared.ending.GateEnding.{GateEnding}
use Rattle.rist_gateway.specs.Run.{EndsGate}
use Rattle.sender_rules.specs.declared.send_bad.SendBad.{SendBad}
use Rattle.sender_rules.specs.declared.send_bad.SendBad.TheVariants as bads
use Rattle.rist_words.specs.CommandLine.{GateCommand}
use Rattle.run_parts.specs.Causes.{CanRefuse}
use Rattle.run_parts.specs.Objects.{Tells, TellsLive}
use Rattle.run_gate.specs.Gated.{Gated, gate_status}
use Rattle.run_gate.specs.Reached.{GatesReached}
use Rattle.run_links.specs.Sessions.{limits_served}
use Rattle.run_gate.specs.Sessions.{setup_gated}
use Rattle.run_parts.specs.declared.status.Status.{Status}
use Rattle.run_parts.specs.declared.status.Status.TheVariants as statuses
use Rattle.run_parts.proofs.PlaceLemmas.{same_here}
use Rattle.run_links.proofs.BroughtLemmas.{before_is, brought, is_brought}

-- what is done was begun
pub done_ran : (status : Status) → status ≡ statuses.Done → CanRefuse status → ⊥
done_ran status done (inl x) = cc
done_ran status done (inr (inl x)) = cc
done_ran status done (inr (inr x)) = cc

-- what ends well was received to its end
gate_done : (ended : Ending) (put looked : Option SendBad) (ending : GateEnding) → EndsGate ended put looked ending → gate_status ending ≡ statuses.Done → ended ≡ endings.Done
gate_done endings.Done put looked ending ends done = refl
gate_done endings.WriteFault None looked ending ends done = absurd ends
gate_done endings.WriteFault (Some bads.Spent) looked ending ends done = absurd (cc (ends, done))
gate_done endings.WriteFault (Some bads.LinksDown) looked ending ends done = absurd (cc (ends, done))
gate_done endings.Spent put None ending ends done = absurd (cc (ends, done))
gate_done endings.Spent put (Some bads.Spent) ending ends done = absurd (cc (ends, done))
gate_done endings.Spent put (Some bads.LinksDown) ending ends done = absurd (cc (ends, done))
gate_done endings.TraceFull put None ending ends done = absurd (cc (ends, done))
gate_done endings.TraceFull put (Some bads.Spent) ending ends done = absurd (cc (ends, done))
gate_done endings.TraceFull put (Some bads.LinksDown) ending ends done = absurd (cc (ends, done))
gate_done (endings.Torn tear) put None ending ends done = absurd (cc (ends, done))
gate_done (endings.Torn tear) put (Some bads.Spent) ending ends done = absurd (cc (ends, done))
gate_done (endings.Torn tear) put (Some bads.LinksDown) ending ends done = absurd (cc (ends, done))
gate_done endings.LinksDown put None ending ends done = absurd (cc (ends, done))
gate_done endings.LinksDown put (Some bads.Spent) ending ends done = absurd (cc (ends, done))
gate_done endings.LinksDown put (Some bads.LinksDown) ending ends done = absurd (cc (ends, done))

pub gated_reached : {I O E L C : Type 0} (tells : Tells I O E) (live : TellsLive L C) (old new : Shelf I O E L C) (c : GateCommand) (status : Status)
    → status ≡ statuses.Done → Gated tells live old new c status → GatesReached tells live old new c status
unfolding is_brought
gated_reached tells live old new c status done r =
    let f = r.run in
    let run = f.receives in
    let n = length c.inputs in
    let setup = (setup_gated c r.receiving r.sending).receiving in
    let given = given_to setup (Some []) 0 in
    let ended : f.ended ≡ endings.Done = gate_done f.ended f.last.put_bad f.last.aside_bad r.ending f.ends (sym r.answer ∙ done) in
    let exact : IsExact given run.desk (told_lists run.are) r.counts =
    (subst (λ e. EndsAs e given run.desk run.are r.counts) ended run.ends).2 in
    let before = before_is run.desk.kept exact.received.before exact.received.whole.ended run.tells_steps in
    let few : n ≤ length r.links_were = omega (arith, r.link_count) in
    record {
      gated = r;
      brought = is_brought live setup (limits_served c.serving) (take n r.links_were) (take n r.links_are) (take n r.clocks_were) (take n r.clocks_are) (Some []) (Some f.last.passed.sent)
          0 f.last.faults r.counts f.ended run refl old n exact.received.before (length-take-le n r.links_were few)
          (λ place link inside here. get_or-take n r.links_were place link inside
          ∙ same_here _ _ (sym (r.links.took place link (omega (arith, inside, few))) ∙ here))
          (λ place clock inside among there.
          let low : place < length r.clocks_were = omega (arith, among, length-take n r.clocks_were) in
          get_or-take n r.clocks_were place clock inside ∙ same_here _ _ (sym (r.clocks.took place clock low) ∙ there))
          exact.received.agree;
      reached = λ p sent_run is steady stays honest. exact.reached _ f.last.passed.sent p sent_run before run.contents is steady stays honest;
      epochs = λ streams sent_run is steady are. exact.epochs _ f.last.passed.sent streams sent_run before run.contents is steady are;
    }
