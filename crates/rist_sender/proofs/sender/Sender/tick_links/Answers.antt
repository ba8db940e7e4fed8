use Rattle.std.proofs.Common.{ℕ, ◌+◌, ◌-◌, ◌<◌, List, length, refl, sym, subst, arith}
use Rattle.std.specs.List.{range_with_len}
use Rattle.rist_wire.specs.declared.session.Session.{Session}
use Rattle.rist_sender.specs.Calls.{TicksOn, TicksInTurn}
use Rattle.rist_sender.specs.Sender.{has_keepalives}
use Rattle.rist_sender.proofs.TurnLemmas.{does_then, stays_then, ticks_short, range_more}
use Rattle.rist_sender.proofs.sender.Sender.tick_links.Goals as goal

pub returns-in-Err-clause-does : goal.returns-in-Err-clause-does
returns-in-Err-clause-does g c = λ from stands fresh.
    let old = c.args.self.now in
    let loop = c.loop-link in
    let kp = has_keepalives old.session.profile in
    let n = length c.args.links.now in
    let inside : loop.link < n = omega arith in
    let d = loop.invariant.does from stands fresh in
    let e = c.in-Err.ensures.does d.to d.stands d.fact.ends.pair in
    does_then _ old loop.self c.tick_link.new.self c.args.links.now loop.links c.tick_link.new.links from _ _ _ loop.invariant.same loop.invariant.set d e
    (λ to fact. record {
      ticks = d.fact.rest to (subst (λ (ls : List ℕ). TicksInTurn kp c.args.us ls d.to to) (sym (range_more loop.link n inside)) (
        to,
        subst (λ (s : Session). TicksOn (has_keepalives s.profile) c.args.us loop.link d.to to) loop.invariant.set.session fact.ticks,
        ticks_short kp c.args.us (range_with_len (loop.link + 1) (n - (loop.link + 1))) to (fact.ends.spent refl) fact.ends.pair,
      ));
      ends = fact.ends;
    })

pub loop-link-preserved : goal.loop-link-preserved
loop-link-preserved g c =
    let old = c.args.self.now in
    let loop = c.loop-link in
    let kp = has_keepalives old.session.profile in
    let n = length c.args.links.now in
    let inside : loop.link < n = omega arith in
    record {
      same = omega (arith, loop.invariant.same, c.tick_link.auto.links);
      set = stays_then old loop.self c.tick_link.new.self loop.invariant.set c.in-Ok.ensures.set;
      does = λ from stands fresh.
          let d = loop.invariant.does from stands fresh in
          let e = c.in-Ok.ensures.does d.to d.stands d.fact.ends.pair in
          does_then _ old loop.self c.tick_link.new.self c.args.links.now loop.links c.tick_link.new.links from _ _ _ loop.invariant.same loop.invariant.set d e
          (λ to fact. record {
            ends = fact.ends;
            rest = λ last t. d.fact.rest last (subst (λ (ls : List ℕ). TicksInTurn kp c.args.us ls d.to last) (sym (range_more loop.link n inside)) (
              to,
              subst (λ (s : Session). TicksOn (has_keepalives s.profile) c.args.us loop.link d.to to) loop.invariant.set.session fact.ticks,
              t,
            ));
          });
    }
