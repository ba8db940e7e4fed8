-- The receivers with their sinks are a fan that was told nothing, and what it leaves of its flows is left of the sinks.
use Rattle.std.proofs.Common.{◌≡◌, ◌∙◌, ◌∷◌, ◌<◌, List, length, map, ap, sym, subst, arith}
use Rattle.std.specs.Prelude.{Err}
use Rattle.capture_walk.specs.declared.walk_bad.WalkBad.TheVariants as walks
use Rattle.rist_fan.specs.Fan.{flows_in}
use Rattle.rist_fan.specs.declared.flow.Came.{Came}
use Rattle.rist_split.specs.Outputs.{IsAnswered}
use Rattle.rist_split.specs.Split.{AllSplit, AreFresh, limits_in}
use Rattle.rist_split.specs.Inside.Making.{receiver_of, sink_of}
use Rattle.rist_split.proofs.FlowLemmas.{first_before, fresh_flows, limits_are}
use Rattle.rist_split.proofs.OutputLemmas.{answered_cut, answered_whole, length_map}
use Rattle.rist_split.proofs.SplitLemmas.{brought_as}
use Rattle.rist_split.proofs.outputs.split_into.Goals as goal

pub split-end-requires-clause-fresh : goal.split-end-requires-clause-fresh
split-end-requires-clause-fresh g c =
    let made = c.requires.made in
    let s = c.seated-flows in
    let some : 0 < length s.result.items =
    omega (arith, ap length s.ensures.receivers, length_map receiver_of s.result.items, made.1.many, c.requires.ports.some) in
    let flows : flows_in c.with.result ≡ s.result.items =
    c.with.ensures.flows ∙ first_before s.result.items c.remove-first.result c.remove-first.new.self.items some c.remove-first.ensures.value c.remove-first.ensures.items in
    let fresh : AreFresh made.0 (flows_in c.with.result) = subst (λ l. AreFresh made.0 l) (sym flows) (fresh_flows made.0 c.args.made.receivers.items s.result.items made.1.each s.ensures.receivers) in
    subst (λ l. AreFresh l (flows_in c.with.result)) (sym (limits_are made.0 c.with.result fresh)) fresh

pub returns-then-has_failed-clause-work : goal.returns-then-has_failed-clause-work
returns-then-has_failed-clause-work g c limits made =
    let s = c.seated-flows in
    let e = c.split-end in
    let some : 0 < length s.result.items =
    omega (arith, ap length s.ensures.receivers, length_map receiver_of s.result.items, made.many, c.requires.ports.some) in
    let flows : flows_in c.with.result ≡ s.result.items =
    c.with.ensures.flows ∙ first_before s.result.items c.remove-first.result c.remove-first.new.self.items some c.remove-first.ensures.value c.remove-first.ensures.items in
    let fresh : AreFresh limits (flows_in c.with.result) = subst (λ l. AreFresh limits l) (sym flows) (fresh_flows limits c.args.made.receivers.items s.result.items made.each s.ensures.receivers) in
    let next = e.result.first ∷ e.result.more.items in
    let old = c.args.sinks.now.items in
    let new = c.unseated.new.sinks.items in
    let contents = g.K.Sink.contents in
    let faults = g.K.Sink.faults in
    let came : List Came = c.deref.result.now in
    let same : came ≡ e.result.came.items = c.deref.ensures.value in
    let came_many : length came ≡ length c.args.ports.now = c.deref.ensures.len ∙ e.ensures.places.1 in
    let many : length (flows_in c.with.result) ≡ length came =
    omega (arith, ap length flows, ap length s.ensures.receivers, length_map receiver_of s.result.items, made.many, came_many) in
    record {
      end = e.result.end;
      unfailed = e.ensures.own.0;
      unrefused = e.ensures.own.1;
      brought = brought_as _ _ _ _ (λ rs. IsAnswered contents faults c.args.ports.now c.args.made.opener limits old new rs e.result.end (Err walks.WriteFault)) e.result.end
          (λ rs all. answered_cut contents faults c.args.ports.now c.args.made.opener limits (flows_in c.with.result) next came old new
          (ap (map sink_of) flows ∙ s.ensures.sinks) (sym c.unseated.ensures.sinks) many (e.ensures.places.0 ∙ sym came_many) rs e.result.end
          (subst (λ l. AllSplit contents faults c.args.ports.now c.args.made.opener l (flows_in c.with.result) next came rs) (limits_are limits c.with.result fresh)
          (subst (λ l. AllSplit contents faults c.args.ports.now c.args.made.opener (limits_in c.with.result) (flows_in c.with.result) next l rs) (sym same) all))
          (sym c.has_failed.ensures.value ∙ c.if-has_failed.true))
          e.ensures.work;
      read = e.ensures.read;
      all_read = e.ensures.ahead;
    }

pub returns-clause-work : goal.returns-clause-work
returns-clause-work g c limits made =
    let s = c.seated-flows in
    let e = c.split-end in
    let some : 0 < length s.result.items =
    omega (arith, ap length s.ensures.receivers, length_map receiver_of s.result.items, made.many, c.requires.ports.some) in
    let flows : flows_in c.with.result ≡ s.result.items =
    c.with.ensures.flows ∙ first_before s.result.items c.remove-first.result c.remove-first.new.self.items some c.remove-first.ensures.value c.remove-first.ensures.items in
    let fresh : AreFresh limits (flows_in c.with.result) = subst (λ l. AreFresh limits l) (sym flows) (fresh_flows limits c.args.made.receivers.items s.result.items made.each s.ensures.receivers) in
    let next = e.result.first ∷ e.result.more.items in
    let old = c.args.sinks.now.items in
    let new = c.unseated.new.sinks.items in
    let contents = g.K.Sink.contents in
    let faults = g.K.Sink.faults in
    let came : List Came = c.deref.result.now in
    let same : came ≡ e.result.came.items = c.deref.ensures.value in
    let came_many : length came ≡ length c.args.ports.now = c.deref.ensures.len ∙ e.ensures.places.1 in
    let many : length (flows_in c.with.result) ≡ length came =
    omega (arith, ap length flows, ap length s.ensures.receivers, length_map receiver_of s.result.items, made.many, came_many) in
    record {
      end = e.result.end;
      unfailed = e.ensures.own.0;
      unrefused = e.ensures.own.1;
      brought = brought_as _ _ _ _ (λ rs. IsAnswered contents faults c.args.ports.now c.args.made.opener limits old new rs e.result.end e.result.end) e.result.end
          (λ rs all. answered_whole contents faults c.args.ports.now c.args.made.opener limits (flows_in c.with.result) next came old new
          (ap (map sink_of) flows ∙ s.ensures.sinks) (sym c.unseated.ensures.sinks) many (e.ensures.places.0 ∙ sym came_many) rs e.result.end
          (subst (λ l. AllSplit contents faults c.args.ports.now c.args.made.opener l (flows_in c.with.result) next came rs) (limits_are limits c.with.result fresh)
          (subst (λ l. AllSplit contents faults c.args.ports.now c.args.made.opener (limits_in c.with.result) (flows_in c.with.result) next l rs) (sym same) all))
          (sym c.has_failed.ensures.value ∙ c.if-has_failed.false))
          e.ensures.work;
      read = e.ensures.read;
      all_read = e.ensures.ahead;
    }
