-- Each part stands at its place again.
use Rattle.std.proofs.Common.{◌++◌, ◌∷◌, [], arith}
use Rattle.desk_run.specs.Workers.{link_of, clock_of, trace_of}
use Rattle.desk_run.proofs.SeatLemmas.{one_unseated, pushed, one_less}
use Rattle.desk_run.proofs.workers.unseated_with.Goals as goal

pub loop-worker-preserved : goal.loop-worker-preserved
loop-worker-preserved g c =
    let i = c.loop-worker.invariant in
    let w = c.in-Some.worker in
    let l = c.loop-worker in
    let less = one_less _ _ _ c.in-Some.ensures.items in
    let links = pushed c.push.result (l.links.items ++ w.link ∷ []) l.links.items c.push.new.self.items (c.push.ensures.succeeds (omega (arith, i.0, less))) c.push.ensures.items in
    let clocks = pushed c.push-in-Some.result (l.clocks.items ++ w.clock ∷ []) l.clocks.items c.push-in-Some.new.self.items (c.push-in-Some.ensures.succeeds (omega (arith, i.1, less))) c.push-in-Some.ensures.items in
    let own = pushed c.push-in-Some-2.result (l.own.items ++ w.trace ∷ []) l.own.items c.push-in-Some-2.new.self.items (c.push-in-Some-2.ensures.succeeds (omega (arith, i.2, less))) c.push-in-Some-2.ensures.items in (
      omega (arith, i.0, less, one_less _ _ _ links, c.push.ensures.capacity),
      omega (arith, i.1, less, one_less _ _ _ clocks, c.push-in-Some.ensures.capacity),
      omega (arith, i.2, less, one_less _ _ _ own, c.push-in-Some-2.ensures.capacity),
      one_unseated link_of _ _ w _ _ _ c.in-Some.ensures.items links i.3,
      one_unseated clock_of _ _ w _ _ _ c.in-Some.ensures.items clocks i.4,
      one_unseated trace_of _ _ w _ _ _ c.in-Some.ensures.items own i.5,
      omega (arith, i.6, c.push.ensures.capacity),
      omega (arith, i.7, c.push-in-Some.ensures.capacity),
      omega (arith, i.8, c.push-in-Some-2.ensures.capacity),
    )
