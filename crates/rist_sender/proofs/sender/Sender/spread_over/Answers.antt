use Rattle.std.proofs.Common.{◌≡◌, ◌∙◌, ℕ, ◌+◌, ◌-◌, ◌<◌, ◌++◌, false, true, List, refl, sym, subst, arith}
use Rattle.std.specs.List.{range_with_len}
use Rattle.rist_sender.specs.Messages.{Original}
use Rattle.rist_sender.specs.Calls.{Spreads}
use Rattle.rist_sender.specs.Inside.Puts.{CopiesOn}
use Rattle.rist_sender.proofs.PutLemmas.{packet_in, spread_on, spread_end}
use Rattle.rist_sender.proofs.TurnLemmas.{does_none, does_then, does_weaker, stays_then, range_more, range_done}
use Rattle.rist_sender.proofs.sender.Sender.spread_over.Goals as goal

pub loop-link-init : goal.loop-link-init
loop-link-init g c = record {
  same = refl;
  set = record { rules = refl; session = refl };
  time = refl;
  does = λ from packet pair stands spells. does_none _ _ _ from _ stands (record { rest = λ others last s. s; short = refl });
}

pub loop-link-preserved : goal.loop-link-preserved
loop-link-preserved g c =
    let old = c.args.self.now in
    let loop = c.loop-link in
    let one = c.args.one in
    let inside : loop.link < c.args.end = omega arith in
    record {
      same = omega (arith, loop.invariant.same, c.copy_on.auto.links);
      set = stays_then old loop.self c.copy_on.new.self loop.invariant.set c.copy_on.ensures.set;
      time = c.copy_on.ensures.time ∙ loop.invariant.time;
      does = λ from packet pair stands spells.
          let d = loop.invariant.does from packet pair stands spells in
          let e = c.if-copy_on.ensures.does d.to packet pair d.stands (packet_in old loop.self pair packet c.args.channel c.args.octets.now loop.invariant.set spells) in
          does_then _ old loop.self c.copy_on.new.self c.args.links.now loop.links c.copy_on.new.links from _ _ _ loop.invariant.same loop.invariant.set d e
          (λ to fact.
          let copies = subst (λ (t : ℕ). CopiesOn one t pair (Original packet) loop.link false d.to to) loop.invariant.time fact in
          record {
            rest = λ others last s. d.fact.rest others last
                (subst (λ (ls : List ℕ). Spreads one old.time pair (Original packet) (ls ++ others) d.to last) (sym (range_more loop.link c.args.end inside))
                (spread_on one old.time pair (Original packet) loop.link (range_with_len (loop.link + 1) (c.args.end - (loop.link + 1)) ++ others) d.to to last copies s));
            short = fact.short ∙ d.fact.short;
          });
    }

pub returns-then-copy_on-clause-does : goal.returns-then-copy_on-clause-does
returns-then-copy_on-clause-does g c = λ from packet pair stands spells.
    let old = c.args.self.now in
    let loop = c.loop-link in
    let one = c.args.one in
    let inside : loop.link < c.args.end = omega arith in
    let d = loop.invariant.does from packet pair stands spells in
    let e = c.if-copy_on.ensures.does d.to packet pair d.stands (packet_in old loop.self pair packet c.args.channel c.args.octets.now loop.invariant.set spells) in
    does_then _ old loop.self c.copy_on.new.self c.args.links.now loop.links c.copy_on.new.links from _ _ _ loop.invariant.same loop.invariant.set d e
    (λ to fact.
    let copies = subst (λ (t : ℕ). CopiesOn one t pair (Original packet) loop.link true d.to to) loop.invariant.time fact in
    record {
      spreads = λ others. d.fact.rest others to
          (subst (λ (ls : List ℕ). Spreads one old.time pair (Original packet) (ls ++ others) d.to to) (sym (range_more loop.link c.args.end inside))
          (spread_end one old.time pair (Original packet) loop.link (range_with_len (loop.link + 1) (c.args.end - (loop.link + 1)) ++ others) d.to to copies));
      short = fact.short ∙ d.fact.short;
    })

pub returns-clause-does : goal.returns-clause-does
returns-clause-does g c = λ from packet pair stands spells.
    let old = c.args.self.now in
    let loop = c.loop-link in
    let done : c.args.end ≡ loop.link = omega (arith, c.loop-link.auto.link-end) in
    let d = loop.invariant.does from packet pair stands spells in
    does_weaker _ _ _ _ _ from _ _ d (λ to fact. record {
      spreads = λ others last s. fact.rest others last
          (subst (λ (ls : List ℕ). Spreads c.args.one old.time pair (Original packet) (ls ++ others) to last) (sym (range_done loop.link c.args.end done)) s);
      short = fact.short;
    })
