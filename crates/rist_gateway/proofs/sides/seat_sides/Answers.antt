-- No clock is set into a part yet.
use Rattle.std.proofs.Common.{[], length, refl, ap, arith}
use Rattle.std.proofs.lemmas.List.{append-nil}
use Rattle.rist_gateway.proofs.sides.seat_sides.Goals as goal

pub loop-clock-init : goal.loop-clock-init
loop-clock-init g c = record {
  few = c.requires.few;
  many = c.requires.many;
  room = omega (arith, c.requires.room, ap length c.requires.no_parts);
  behind = [];
  given = [];
  same = refl;
  clocks = append-nil c.args.clocks.now.items;
  passes = append-nil c.args.passes.now.items;
  sides = c.requires.no_parts;
  clocks_cap = refl;
  passes_cap = refl;
  parts_cap = omega arith;
}
