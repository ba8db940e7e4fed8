-- Each pass stands beside its room.
use Rattle.std.proofs.Common.{◌≡◌, ◌∙◌, ◌∷◌, ◌++◌, [], length, sym, subst, arith}
use Rattle.std.proofs.lemmas.List.Elements.{All-push}
use Rattle.std.specs.List.{All}
use Rattle.fan_desk.specs.declared.tunnel_desk.RowPass.{RowPass}
use Rattle.desk_run.proofs.SeatLemmas.{one_less, one_seated, pushed}
use Rattle.fan_run.specs.Passes.{HasRooms, pass_of}
use Rattle.fan_run.proofs.RunLemmas.{last_has, rest_have}
use Rattle.fan_run.proofs.passes.row_passes.Goals as goal

pub loop-pass-preserved : goal.loop-pass-preserved
loop-pass-preserved g c =
    let i = c.loop-pass.invariant in
    let w : RowPass g.row.N.Denot g.row.K.Denot = record { pass = c.in-Some.pass; came = c.in-Some-pop.came } in
    let passes = one_less _ _ _ c.in-Some.ensures.items in
    let rooms = one_less _ _ _ c.in-Some-pop.ensures.items in
    let more = pushed c.push.result (c.loop-pass.own.items ++ w ∷ []) c.loop-pass.own.items c.push.new.self.items (c.push.ensures.succeeds (let room = i.room in omega (arith, room, passes))) c.push.ensures.items in
    record {
      rooms = let was = i.rooms in omega (arith, was, passes, rooms);
      places = rest_have c.in-Some-pop.came (λ came. length came.items ≡ g.N.FanOrigin.places) _ _ c.in-Some-pop.ensures.items i.places;
      room = let was = i.room in omega (arith, was, passes, one_less _ _ _ more, c.push.ensures.capacity);
      passes_are = one_seated pass_of _ _ w _ _ _ c.in-Some.ensures.items more i.passes_are;
      own = subst (All (HasRooms g.N.FanOrigin.places)) (sym more) (All-push (HasRooms g.N.FanOrigin.places) c.loop-pass.own.items w i.own (last_has c.in-Some-pop.came (λ came. length came.items ≡ g.N.FanOrigin.places) _ _ c.in-Some-pop.ensures.items i.places));
      capacity = c.in-Some.ensures.capacity ∙ i.capacity;
    }
