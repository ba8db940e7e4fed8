-- One more part, a refused one, and the last.
use Rattle.std.proofs.Common.{◌<◌, ◌≤◌, List, ℕ, length, take, Ok, Err, refl, sym, ap, ◌∙◌, subst, arith}
use Rattle.sender_rules.specs.Bonding.{link_count}
use Rattle.rist_sender.specs.Calls.{Rules}
use Rattle.rist_gateway.specs.Onward.{passed_of}
use Rattle.rist_gateway.specs.Inside.Moves.{setup_with, SendsBefore}
use Rattle.rist_gateway.proofs.MoveLemmas.{goes_then, stays_then, sends_more, sends_bad, sends_last, take_all, drop_all, part_as}
use Rattle.rist_gateway.proofs.cuts.send_parts.Goals as goal

pub returns-in-Err-clause-work : goal.returns-in-Err-clause-work
returns-in-Err-clause-work g c = λ from far.
    let l = c.loop-rest in
    let d = l.invariant.work from far in
    let some : 0 < length l.rest.now = omega (arith, c.loop-rest-test.true) in
    let setup = setup_with c.args.sender.now (length c.args.links.now) in
    goes_then _ c.args.sender.now l.sender c.send_part.new.sender (passed_of (g.C.Clock.moments l.clock) l.handed) (passed_of (g.C.Clock.moments c.send_part.new.clock) c.send_part.new.handed) c.args.links.now l.links c.send_part.new.links from _ _ _ l.invariant.same l.invariant.stay d
    (c.in-Err.ensures.work d.to d.stands)
    (λ to fact. sends_bad setup c.args.piece.now l.rest.now c.in-Err.bad from d.to to some d.fact
    (part_as c.args.sender.now l.sender (length c.args.links.now) (length l.links) _ (take 1500 l.rest.now) (Err c.in-Err.bad) d.to to l.invariant.stay l.invariant.same c.split_at.ensures.front fact))

pub loop-rest-preserved : goal.loop-rest-preserved
loop-rest-preserved g c =
    let l = c.loop-rest in
    let some : 0 < length l.rest.now = omega (arith, c.loop-rest-test.true) in
    let setup = setup_with c.args.sender.now (length c.args.links.now) in
    record {
      stay = stays_then c.args.sender.now l.sender c.send_part.new.sender l.invariant.stay c.send_part.ensures.set;
      same = c.send_part.auto.links ∙ l.invariant.same;
      links = c.send_part.auto.links ∙ (l.invariant.links ∙ ap (λ (r : Rules). link_count r.bonding) (sym c.send_part.ensures.set.rules));
      few = omega (arith, l.invariant.few, c.send_part.auto.links);
      work = λ from far.
          let d = l.invariant.work from far in
          goes_then _ c.args.sender.now l.sender c.send_part.new.sender (passed_of (g.C.Clock.moments l.clock) l.handed) (passed_of (g.C.Clock.moments c.send_part.new.clock) c.send_part.new.handed) c.args.links.now l.links c.send_part.new.links from _ _ _ l.invariant.same l.invariant.stay d
          (c.in-Ok.ensures.work d.to d.stands)
          (λ to fact. subst (λ (xs : List ℕ). SendsBefore setup c.args.piece.now xs from to) (sym c.split_at.ensures.back)
          (sends_more setup c.args.piece.now l.rest.now from d.to to some d.fact
          (part_as c.args.sender.now l.sender (length c.args.links.now) (length l.links) _ (take 1500 l.rest.now) (Ok tt) d.to to l.invariant.stay l.invariant.same c.split_at.ensures.front fact)));
    }

pub returns-then-left-gt0-clause-work : goal.returns-then-left-gt0-clause-work
returns-then-left-gt0-clause-work g c = λ from far.
    let l = c.loop-rest in
    let d = l.invariant.work from far in
    let few : length l.rest.now ≤ 1500 = omega (arith, c.loop-rest-test.false) in
    let some : 0 < length l.rest.now = omega (arith, c.if-left-gt0.true) in
    let setup = setup_with c.args.sender.now (length c.args.links.now) in
    goes_then _ c.args.sender.now l.sender c.send_part-then-left-gt0.new.sender (passed_of (g.C.Clock.moments l.clock) l.handed) (passed_of (g.C.Clock.moments c.send_part-then-left-gt0.new.clock) c.send_part-then-left-gt0.new.handed) c.args.links.now l.links c.send_part-then-left-gt0.new.links from _ _ _ l.invariant.same l.invariant.stay d
    (c.send_part-then-left-gt0.ensures.work d.to d.stands)
    (λ to fact. sends_last setup c.args.piece.now l.rest.now c.send_part-then-left-gt0.result from d.to to some (take_all 1500 l.rest.now few) (drop_all 1500 l.rest.now few) d.fact
    (part_as c.args.sender.now l.sender (length c.args.links.now) (length l.links) l.rest.now l.rest.now c.send_part-then-left-gt0.result d.to to l.invariant.stay l.invariant.same refl fact))
