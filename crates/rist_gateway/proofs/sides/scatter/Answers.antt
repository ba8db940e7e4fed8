-- One worker after another is taken, the first one first.
use Rattle.std.proofs.Common.{◌∙◌, ◌++◌, ◌<◌, length, map, reverse, refl, ap, sym, subst, arith}
use Rattle.rist_gateway.specs.Inside.Sides.{receiving_part}
use Rattle.rist_gateway.proofs.GatherLemmas.{Scattered, scattered_none, scattered_step, scattered_all}
use Rattle.rist_gateway.proofs.sides.scatter.Goals as goal

pub loop-left-init : goal.loop-left-init
loop-left-init g c = record {
  within = omega arith;
  room = c.requires.room;
  scattered = λ ws rest is long. (
    omega (arith, ap length c.requires.none),
    subst (λ here. Scattered ws here rest c.reverse.new.self.items) (sym c.requires.none) (scattered_none ws rest (map receiving_part ws ++ rest) c.reverse.new.self.items refl is),
  );
}

pub loop-left-preserved : goal.loop-left-preserved
loop-left-preserved g c =
    let i = c.loop-left.invariant in
    let some = c.loop-left-test.true in
    record {
      within = omega (arith, i.within, some);
      room = omega (arith, i.room, c.take_one.ensures.room);
      scattered = λ ws rest is long.
          let s = i.scattered ws rest is long in
          let less : length c.loop-left.workers.items < length ws = omega (arith, s.0, long, some) in
          let n = scattered_step ws c.loop-left.workers.items c.take_one.new.workers.items rest c.loop-left.parts.items c.take_one.new.parts.items less s.1
          (λ w left cut. c.take_one.ensures.taken w left cut (omega (arith, less, long, i.room))) in
          (omega (arith, s.0, n.0, some), n.1);
    }

pub returns : goal.returns
returns g c = record {
  apart = λ ws rest is long.
      let s = c.loop-left.invariant.scattered ws rest (c.reverse.ensures.items ∙ ap (λ l. reverse l) is) long in
      scattered_all ws c.loop-left.workers.items rest c.loop-left.parts.items (omega (arith, s.0, long, c.loop-left-test.false)) s.1;
}
