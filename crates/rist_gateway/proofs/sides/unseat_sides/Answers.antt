-- One more clock and pass are back, and then all are.
use Rattle.std.proofs.Common.{◌≡◌, [], rules, arith}
use Rattle.desk_run.proofs.SeatLemmas.{one_less}
use Rattle.rist_gateway.specs.Workers.{side_clock}
use Rattle.rist_gateway.specs.Inside.Sides.{side_pass}
use Rattle.rist_gateway.proofs.LendLemmas.{returned_step, returned_all}
use Rattle.rist_gateway.proofs.sides.unseat_sides.Goals as goal

pub loop-part-preserved : goal.loop-part-preserved
loop-part-preserved g c =
    let i = c.loop-part.invariant in
    let parts = one_less _ _ _ c.in-Some.ensures.items in
    let e = c.unseat_side.ensures in
    record {
      clock_room = omega (arith, i.clock_room, parts, e.clocks, e.room.0);
      pass_room = omega (arith, i.pass_room, parts, e.passes, e.room.1);
      clocks_more = omega (arith, i.clocks_more, e.room.0);
      passes_more = omega (arith, i.passes_more, e.room.1);
      clocks = λ sides is. returned_step side_clock _ _ _ _ _ _ sides c.in-Some.ensures.items (λ s same. (e.given s same (omega (arith, i.clock_room, parts)) (omega (arith, i.pass_room, parts))).0) (i.clocks sides is);
      passes = λ sides is. returned_step side_pass _ _ _ _ _ _ sides c.in-Some.ensures.items (λ s same. (e.given s same (omega (arith, i.clock_room, parts)) (omega (arith, i.pass_room, parts))).1) (i.passes sides is);
    }

pub returns-clause-value : goal.returns-clause-value
returns-clause-value g c = λ sides is.
    let none : c.loop-part.parts.items ≡ [] = search rules in
    (returned_all side_clock _ _ _ sides none (c.loop-part.invariant.clocks sides is), returned_all side_pass _ _ _ sides none (c.loop-part.invariant.passes sides is))
