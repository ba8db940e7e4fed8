use Rattle.std.proofs.Common.{◌≡◌, ◌∙◌, ℕ, ◌-◌, ◌<◌, List, length, map, Ok, Err, refl, sym, subst, arith}
use Rattle.std.specs.List.{range_with_len}
use Rattle.rist_sender.proofs.TurnLemmas.{stays_then, range_more, range_done}
use Rattle.rist_send.specs.Run.{Setup, setup_of}
use Rattle.rist_send.specs.Turns.{ReadsLink, ReadsInTurn}
use Rattle.rist_send.specs.Inside.Moves.{with_links}
use Rattle.rist_send.proofs.MoveLemmas.{moves_none, moves_as, links_then, setup_same, at_self}
use Rattle.rist_send.proofs.reading.read_links.Goals as goal

less_none : (n : ℕ) → n - 0 ≡ n
less_none n = omega arith

pub loop-link-init : goal.loop-link-init
loop-link-init g c = record {
  same = refl;
  set = record { rules = refl; session = refl };
  opener = refl;
  stage = refl;
  does = λ settings from at. moves_none _ c.args.sender.now c.args.progress.now (with_links from (map g.L.Link.reads c.args.links.now)) c.args.links.now from _ from refl at
      (λ result last reads. subst (λ (n : ℕ). ReadsInTurn (setup_of settings c.args.sender.now (length c.args.links.now)) (range_with_len 0 n) result from last) (less_none (length c.args.links.now)) reads);
}

pub loop-link-preserved : goal.loop-link-preserved
loop-link-preserved g c =
    let loop = c.loop-link in
    let old = c.args.sender.now in
    let links = c.args.links.now in
    let n = length links in
    let inside : loop.link < n = omega (arith, loop.invariant.same) in
    record {
      same = omega (arith, loop.invariant.same, c.read_link.auto.links);
      set = stays_then old loop.sender c.read_link.new.sender loop.invariant.set c.in-Ok.ensures.set;
      opener = c.in-Ok.ensures.opener ∙ loop.invariant.opener;
      stage = c.in-Ok.ensures.stage ∙ loop.invariant.stage;
      does = λ settings from at.
          let d = loop.invariant.does settings from at in
          let setup = setup_of settings old n in
          links_then _ old loop.sender c.read_link.new.sender loop.progress c.read_link.new.progress (map g.L.Link.reads loop.links) (map g.L.Link.reads c.read_link.new.links) links loop.links c.read_link.new.links from _ _ _
          loop.invariant.same loop.invariant.set d (c.in-Ok.ensures.work settings d.to (at_self _ _ _ d.to d.stands))
          (λ to fact result last reads. d.fact result last (subst (λ (ls : List ℕ). ReadsInTurn setup ls result d.to last) (sym (range_more loop.link n inside)) (record {
            first = Ok tt;
            between = to;
            before = subst (λ (s : Setup). ReadsLink s loop.link (Ok tt) d.to to) (setup_same settings old loop.sender n (length loop.links) loop.invariant.set loop.invariant.same) fact;
            after = reads;
          })));
    }

pub returns-in-Err-clause-work : goal.returns-in-Err-clause-work
returns-in-Err-clause-work g c = λ settings from at.
    let loop = c.loop-link in
    let old = c.args.sender.now in
    let links = c.args.links.now in
    let n = length links in
    let inside : loop.link < n = omega (arith, loop.invariant.same) in
    let d = loop.invariant.does settings from at in
    let setup = setup_of settings old n in
    links_then _ old loop.sender c.read_link.new.sender loop.progress c.read_link.new.progress (map g.L.Link.reads loop.links) (map g.L.Link.reads c.read_link.new.links) links loop.links c.read_link.new.links from _ _ _
    loop.invariant.same loop.invariant.set d (c.in-Err.ensures.work settings d.to (at_self _ _ _ d.to d.stands))
    (λ to fact. d.fact (Err c.in-Err.fault) to (subst (λ (ls : List ℕ). ReadsInTurn setup ls (Err c.in-Err.fault) d.to to) (sym (range_more loop.link n inside)) (record {
      first = Err c.in-Err.fault;
      between = to;
      before = subst (λ (s : Setup). ReadsLink s loop.link (Err c.in-Err.fault) d.to to) (setup_same settings old loop.sender n (length loop.links) loop.invariant.set loop.invariant.same) fact;
      after = (refl, refl);
    })))

pub returns-clause-work : goal.returns-clause-work
returns-clause-work g c = λ settings from at.
    let loop = c.loop-link in
    let old = c.args.sender.now in
    let links = c.args.links.now in
    let n = length links in
    let setup = setup_of settings old n in
    let done : n ≡ loop.link = omega (arith, loop.invariant.same) in
    let outside = with_links from (map g.L.Link.reads loop.links) in
    moves_as _ old loop.sender loop.progress outside outside links loop.links from _ _ (loop.invariant.does settings from at) (λ to is. is)
    (λ to fact. fact (Ok tt) to (subst (λ (ls : List ℕ). ReadsInTurn setup ls (Ok tt) to to) (sym (range_done loop.link n done)) (refl, refl)))
