-- The receivers with their sinks are flows that were told nothing, and what the run left of these is left of the sinks.
use Rattle.std.proofs.Common.{rules, ◌≡◌, ◌∙◌, ◌∷◌, ◌≤◌, suc, length, refl, ap, sym, subst, arith}
use Rattle.std.specs.Prelude.{vec_capacity}
use Rattle.std.proofs.lemmas.List.{length-map}
use Rattle.outside_net.specs.Links.{LinkTells}
use Rattle.rist_wire.specs.Among.{ArePorts}
use Rattle.fan_desk.specs.Origin.{AreUntold}
use Rattle.rist_words.specs.Shown.{shown_fan}
use Rattle.run_parts.specs.Sessions.{session_read}
use Rattle.run_fan.specs.Inside.Making.{receiver_of, sealers_in, sink_of}
use Rattle.run_fan.proofs.MakingLemmas.{are_ports, flows_are, run_same, set_flows, untold_flows}
use Rattle.run_fan.proofs.receiving.receive_made.Goals as goal

pub receive_flows-requires-clause-ports : goal.receive_flows-requires-clause-ports
receive_flows-requires-clause-ports g c κs within = subst ArePorts (sym c.requires.made.ports) (are_ports (shown_fan c.args.line.now) c.requires.range)

pub receive_flows-requires-clause-untold : goal.receive_flows-requires-clause-untold
receive_flows-requires-clause-untold g c κs within =
    let s = c.seated-more in
    subst (AreUntold g.K.Sink.contents) (sym (flows_are c.args.made.receivers.items _ c.seated-more.result.items _ c.remove-first.result c.remove-first.new.self.items c.seated-more.ensures.receivers c.requires.receivers c.requires.range.outs.some c.with-fan.ensures.flows c.remove-first.ensures.value c.remove-first.ensures.items))
    (untold_flows (shown_fan c.args.line.now) g.K.Sink.contents c.args.made.receivers.items c.args.sinks.now.items s.result.items c.requires.made.receivers c.requires.empty s.ensures.receivers s.ensures.sinks)

pub unseated-requires-clause-room : goal.unseated-requires-clause-room
unseated-requires-clause-room g c =
    let s = c.seated-more in
    let run = c.in-Ok.ensures.work (session_read (shown_fan c.args.line.now).session) c.requires.made.openers in
    let many : suc (length c.in-Ok.field-0.more.items) ≡ length s.result.items = run.places.0 ∙ ap length (flows_are c.args.made.receivers.items _ c.seated-more.result.items _ c.remove-first.result c.remove-first.new.self.items c.seated-more.ensures.receivers c.requires.receivers c.requires.range.outs.some c.with-fan.ensures.flows c.remove-first.ensures.value c.remove-first.ensures.items) in
    let sinks : length s.result.items ≡ length c.args.sinks.now.items = sym (length-map s.result.items sink_of) ∙ ap length s.ensures.sinks in
    let fits : length c.args.sinks.now.items ≤ vec_capacity c.args.sinks.now = search rules in
    let room = s.ensures.room in
    omega (arith, many, sinks, fits, room)

pub unseated-requires-clause-counts : goal.unseated-requires-clause-counts
unseated-requires-clause-counts g c =
    let s = c.seated-more in
    let run = c.in-Ok.ensures.work (session_read (shown_fan c.args.line.now).session) c.requires.made.openers in
    let many : suc (length c.in-Ok.field-0.more.items) ≡ length s.result.items = run.places.0 ∙ ap length (flows_are c.args.made.receivers.items _ c.seated-more.result.items _ c.remove-first.result c.remove-first.new.self.items c.seated-more.ensures.receivers c.requires.receivers c.requires.range.outs.some c.with-fan.ensures.flows c.remove-first.ensures.value c.remove-first.ensures.items) in
    let receivers : length s.result.items ≡ length c.args.made.receivers.items = sym (length-map s.result.items receiver_of) ∙ ap length s.ensures.receivers in
    let room = c.requires.made.counts_room in
    omega (arith, many, receivers, room)

pub returns-in-Ok-clause-work : goal.returns-in-Ok-clause-work
returns-in-Ok-clause-work g c =
    let s = c.seated-more in
    let line = shown_fan c.args.line.now in
    let tells : LinkTells g.row.L.Denot = record { reads = g.L.Link.reads; taken = g.L.Link.taken; knows = g.L.Link.knows; ends = g.L.Link.ends; faults = g.L.Link.faults } in
    record {
      flows = s.result.items;
      left = c.in-Ok.field-0.first ∷ c.in-Ok.field-0.more.items;
      had = s.ensures.sinks;
      has = sym c.unseated.ensures.sinks;
      set = set_flows line c.args.made.receivers.items (sealers_in c.args.made) s.result.items c.requires.made.receivers s.ensures.receivers refl;
      counted = sym c.unseated.ensures.counts;
      came = c.in-Ok.field-0.came.items;
      run = run_same g.C.Clock.moments tells g.K.Sink.contents g.K.Sink.faults _ _ _ _ _ _ _ _ _ _ _ (sym (flows_are c.args.made.receivers.items _ c.seated-more.result.items _ c.remove-first.result c.remove-first.new.self.items c.seated-more.ensures.receivers c.requires.receivers c.requires.range.outs.some c.with-fan.ensures.flows c.remove-first.ensures.value c.remove-first.ensures.items)) (sym c.requires.made.ports) (c.in-Ok.ensures.work (session_read line.session) c.requires.made.openers);
    }

pub returns-in-Ok-clause-places : goal.returns-in-Ok-clause-places
returns-in-Ok-clause-places g c =
    let s = c.seated-more in
    let run = c.in-Ok.ensures.work (session_read (shown_fan c.args.line.now).session) c.requires.made.openers in
    ap length c.unseated.ensures.sinks
    ∙ (length-map (c.in-Ok.field-0.first ∷ c.in-Ok.field-0.more.items) sink_of
    ∙ (run.places.0 ∙ (ap length (flows_are c.args.made.receivers.items _ c.seated-more.result.items _ c.remove-first.result c.remove-first.new.self.items c.seated-more.ensures.receivers c.requires.receivers c.requires.range.outs.some c.with-fan.ensures.flows c.remove-first.ensures.value c.remove-first.ensures.items) ∙ (sym (length-map s.result.items sink_of) ∙ ap length s.ensures.sinks))))
