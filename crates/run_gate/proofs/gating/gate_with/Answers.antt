-- What was made is what the line says, and what the run left is the line's.
use Rattle.outside_net.specs.Links.{LinkTells}
use Rattle.std.proofs.Common.{◌≡◌, length, subst, arith}
use Rattle.rist_gateway.specs.Run.{Forwards}
use Rattle.rist_words.specs.Shown.{shown_gate}
use Rattle.desk_run.specs.Run.{timed_links}
use Rattle.run_links.specs.Sessions.{limits_served}
use Rattle.run_gate.specs.Sessions.{setup_gated}
use Rattle.run_gate.proofs.EndsLemmas.{gated_ends}
use Rattle.run_gate.proofs.gating.gate_with.Goals as goal

pub returns-in-Ok-gate_on-clause-work : goal.returns-in-Ok-gate_on-clause-work
returns-in-Ok-gate_on-clause-work g c =
    let line = shown_gate c.args.line.now in
    let tells : LinkTells g.row.L.Denot = record { reads = g.L.Link.reads; taken = g.L.Link.taken; knows = g.L.Link.knows; ends = g.L.Link.ends; faults = g.L.Link.faults } in
    let inputs : c.len.result ≡ length c.args.line.now.inputs.items = omega (arith, c.len.ensures) in
    let gated = c.in-Ok-gate_on.gated in
    record {
      ending = gated.ending;
      answer = c.gate_status.ensures.value;
      run = subst
          (λ n. Forwards g.C.Clock.moments tells (setup_gated line c.args.sealers.receiving c.args.sealers.sending) (limits_served line.serving) n (timed_links c.args.links.now.items c.args.clocks.now.items) (timed_links c.gate_on.new.links.items c.gate_on.new.clocks.items)
          gated.counts gated.ending) inputs
          (subst
          (λ s. Forwards g.C.Clock.moments tells s (limits_served line.serving) c.len.result (timed_links c.args.links.now.items c.args.clocks.now.items) (timed_links c.gate_on.new.links.items c.gate_on.new.clocks.items)
          gated.counts gated.ending) c.in-Ok.ensures.setup c.in-Ok-gate_on.ensures.work);
    }

pub returns-in-Ok-gate_on-clause-ends : goal.returns-in-Ok-gate_on-clause-ends
returns-in-Ok-gate_on-clause-ends g c = gated_ends _ _ _ _ _ _ _ _ _ _ (returns-in-Ok-gate_on-clause-work g c)
