-- Each worker has the parts of its place.
use Rattle.std.proofs.Common.{◌∙◌, ◌∷◌, ◌++◌, [], sym, subst, arith, refl}
use Rattle.std.proofs.lemmas.List.Elements.{All-push}
use Rattle.std.specs.List.{All}
use Rattle.std.specs.Prelude.{None}
use Rattle.rist_desk.specs.declared.worker.Worker.{Worker}
use Rattle.desk_run.specs.Workers.{link_of, clock_of, opener_of, trace_of, is_unended}
use Rattle.desk_run.proofs.SeatLemmas.{one_seated, pushed, one_less}
use Rattle.desk_run.proofs.workers.seated_with.Goals as goal

pub loop-link-preserved : goal.loop-link-preserved
loop-link-preserved g c =
    let i = c.loop-link.invariant in
    let w : Worker g.row.L.Denot g.row.C.Denot g.row.U.Denot = record { link = c.in-Some.link; clock = c.in-Some-Some.clock; opener = c.in-Some-Some.opener; trace = c.in-Some-pop.trace; end = None } in
    let links = one_less _ _ _ c.in-Some.ensures.items in
    let clocks = one_less _ _ _ c.in-Some-Some.ensures.items in
    let openers = one_less _ _ _ c.in-Some-Some.ensures'.items in
    let own = one_less _ _ _ c.in-Some-pop.ensures.items in
    let more = pushed c.push.result (c.loop-link.workers.items ++ w ∷ []) c.loop-link.workers.items c.push.new.self.items (c.push.ensures.succeeds (let room = i.room in omega (arith, room, links))) c.push.ensures.items in
    record {
      clocks = let was = i.clocks in omega (arith, was, links, clocks);
      openers = let was = i.openers in omega (arith, was, links, openers);
      own = let was = i.own in omega (arith, was, links, own);
      room = let was = i.room in omega (arith, was, links, one_less _ _ _ more, c.push.ensures.capacity);
      links_are = one_seated link_of _ _ w _ _ _ c.in-Some.ensures.items more i.links_are;
      clocks_are = one_seated clock_of _ _ w _ _ _ c.in-Some-Some.ensures.items more i.clocks_are;
      openers_are = one_seated opener_of _ _ w _ _ _ c.in-Some-Some.ensures'.items more i.openers_are;
      own_are = one_seated trace_of _ _ w _ _ _ c.in-Some-pop.ensures.items more i.own_are;
      ends = subst (All is_unended) (sym more) (All-push is_unended c.loop-link.workers.items w i.ends refl);
      link_room = c.in-Some.ensures.capacity ∙ i.link_room;
      clock_room = c.in-Some-Some.ensures.capacity ∙ i.clock_room;
      own_room = c.in-Some-pop.ensures.capacity ∙ i.own_room;
    }
