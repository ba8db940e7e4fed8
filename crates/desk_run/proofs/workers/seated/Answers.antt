-- Each worker has the parts of its place.
use Rattle.std.proofs.Common.{◌∙◌, ◌∷◌, ◌++◌, [], sym, subst, arith, refl}
use Rattle.std.proofs.lemmas.List.Elements.{All-push}
use Rattle.std.specs.List.{All}
use Rattle.std.specs.Prelude.{None}
use Rattle.rist_desk.specs.declared.worker.Worker.{Worker}
use Rattle.desk_run.specs.Workers.{link_of, clock_of, seat_of, is_unended}
use Rattle.desk_run.proofs.SeatLemmas.{one_seated, pushed, one_less}
use Rattle.desk_run.proofs.workers.seated.Goals as goal

pub loop-link-preserved : goal.loop-link-preserved
loop-link-preserved g c =
    let i = c.loop-link.invariant in
    let w : Worker g.row.L.Denot g.row.C.Denot g.row.U.Denot = record { link = c.in-Some.link; clock = c.in-Some-Some.clock; opener = c.in-Some-Some.field-0-1.opener; trace = c.in-Some-Some.field-0-1.trace; end = None } in
    let links = one_less _ _ _ c.in-Some.ensures.items in
    let clocks = one_less _ _ _ c.in-Some-Some.ensures.items in
    let seats = one_less _ _ _ c.in-Some-Some.ensures'.items in
    let more = pushed c.push.result (c.loop-link.workers.items ++ w ∷ []) c.loop-link.workers.items c.push.new.self.items (c.push.ensures.succeeds (omega (arith, i.2, links))) c.push.ensures.items in (
      omega (arith, i.0, links, clocks),
      omega (arith, i.1, links, seats),
      omega (arith, i.2, links, one_less _ _ _ more, c.push.ensures.capacity),
      one_seated link_of _ _ w _ _ _ c.in-Some.ensures.items more i.3,
      one_seated clock_of _ _ w _ _ _ c.in-Some-Some.ensures.items more i.4,
      one_seated seat_of _ _ w _ _ _ c.in-Some-Some.ensures'.items more i.5,
      subst (All is_unended) (sym more) (All-push is_unended c.loop-link.workers.items w i.6 refl),
      c.in-Some.ensures.capacity ∙ i.7,
      c.in-Some-Some.ensures.capacity ∙ i.8,
    )
