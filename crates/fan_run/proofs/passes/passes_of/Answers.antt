-- Each pass stands at its place again.
use Rattle.std.proofs.Common.{◌++◌, ◌∷◌, [], arith}
use Rattle.desk_run.proofs.SeatLemmas.{one_less, one_unseated, pushed}
use Rattle.fan_run.specs.Passes.{pass_of}
use Rattle.fan_run.proofs.passes.passes_of.Goals as goal

pub loop-one-preserved : goal.loop-one-preserved
loop-one-preserved g c =
    let i = c.loop-one.invariant in
    let w = c.in-Some.one in
    let l = c.loop-one in
    let less = one_less _ _ _ c.in-Some.ensures.items in
    let passes = pushed c.push.result (l.passes.items ++ w.pass ∷ []) l.passes.items c.push.new.self.items (c.push.ensures.succeeds (let room = i.room in omega (arith, room, less))) c.push.ensures.items in
    record {
      room = let was = i.room in omega (arith, was, less, one_less _ _ _ passes, c.push.ensures.capacity);
      passes_are = one_unseated pass_of _ _ w _ _ _ c.in-Some.ensures.items passes i.passes_are;
    }
