-- One more sink and one more receiver's counts stand before the others.
use Rattle.std.proofs.Common.{◌∙◌, ◌∷◌, ap, arith, length}
use Rattle.desk_run.proofs.SeatLemmas.{one_less}
use Rattle.run_fan.specs.Inside.Making.{counts_of, sink_of}
use Rattle.run_fan.proofs.MakingLemmas.{inserted, one_back}
use Rattle.run_fan.proofs.seating.unseated.Goals as goal

pub loop-flow-preserved : goal.loop-flow-preserved
loop-flow-preserved g c =
    let i = c.loop-flow.invariant in
    let flow = c.in-Some.flow in
    let less = one_less _ _ _ c.in-Some.ensures.items in
    let room = i.0 in
    let places = i.1 in
    let counts = inserted c.insert.result c.loop-flow.counts.items c.insert.new.self.items c.counts.result (c.insert.ensures.succeeds (omega (arith, places, less))) c.insert.ensures.items ∙ ap (λ x. x ∷ c.loop-flow.counts.items) c.counts.ensures.value in
    let sinks = inserted c.insert-in-Some.result c.loop-flow.sinks.items c.insert-in-Some.new.self.items flow.sink (c.insert-in-Some.ensures.succeeds (omega (arith, room, less))) c.insert-in-Some.ensures.items in (
      let grows = c.insert-in-Some.ensures.capacity in let more = ap length sinks in omega (arith, room, less, more, grows),
      let grows = c.insert.ensures.capacity in let more = ap length counts in omega (arith, places, less, more, grows),
      one_back sink_of _ _ flow _ _ _ c.in-Some.ensures.items sinks i.2,
      one_back counts_of _ _ flow _ _ _ c.in-Some.ensures.items counts i.3,
    )
