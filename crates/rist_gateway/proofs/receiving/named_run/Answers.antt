-- What the workers, the desk and its end leave, together.
use Rattle.outside_io.specs.Causes.{RoseWhere}
use Rattle.desk_run.specs.Endings.{is_write_fault}
use Rattle.std.proofs.Common.{ℕ, arith, ◌≡◌, ◌≤◌, ◌∙◌, refl, map, ap, sym, subst, reverse, List, None, Some}
use Rattle.std.proofs.lemmas.List.{length-map}
use Rattle.std.specs.Prelude.{slice_index_or}
use Rattle.rist_desk.specs.Desk.{DeskState, Given, StandsFor, state_of}
use Rattle.outside_net.specs.Links.{LinkTells}
use Rattle.rist_desk.specs.Serving.{ServesOn, TraceTells}
use Rattle.rist_desk.specs.declared.step.Step.{Step}
use Rattle.desk_run.proofs.RunLemmas.{Finds, all_new, all_served, clocks_told as worker_clocks_told, ends_as, exactly, kept_sure, links_told}
use Rattle.desk_run.specs.Run.{EndsAs}
use Rattle.desk_run.specs.Setup.{given_to, setup_of}
use Rattle.desk_run.specs.Workers.{seat_of, told_by}
use Rattle.std.specs.Prelude.{vec_capacity}
use Rattle.std.proofs.Common.{◌++◌, length, rules}
use Rattle.turn_desk.specs.Asides.{LooksAt}
use Rattle.rist_gateway.specs.Workers.{LookedAt, side_clock}
use Rattle.rist_gateway.specs.Inside.Sides.{seated_sides, without_pass}
use Rattle.rist_gateway.proofs.LendLemmas.{clocks_told, looked_told, parts_count, seated_told, side_count}
use Rattle.rist_gateway.proofs.receiving.named_run.Goals as goal

pub seat_sides-requires : goal.seat_sides-requires
seat_sides-requires g c = record {
  few = omega (arith, c.requires.few);
  many = omega (arith, c.requires.made.passes);
  room = omega (arith, c.requires.made.part_room);
  no_parts = c.requires.made.no_parts;
}

pub serve_both-requires-clause-room : goal.serve_both-requires-clause-room
serve_both-requires-clause-room g c κs within =
    let clocks = c.args.beside.now.items in
    let passes = c.args.end.passes.items in
    let seated = c.seat_sides.ensures.seated 0 (omega (arith, c.requires.made.passes)) in
    let workers_long = sym (length-map c.seated-workers.result.items seat_of) ∙ (ap length c.seated-workers.ensures.seats ∙ c.requires.made.receiving.places) in
    record {
      sides = seated_sides 0 clocks passes;
      parts = seated.1;
      room = omega (arith, workers_long, side_count 0 clocks passes c.requires.made.passes, c.requires.made.part_room, c.seat_sides.ensures.room.2);
    }

pub serve_both-requires-clause-may : goal.serve_both-requires-clause-may
serve_both-requires-clause-may g c κs within = λ i d less. record { own = tt; left_is = let few = c.requires.turns.1 in omega (arith, few) }

pub serve_both-requires-clause-may_look : goal.serve_both-requires-clause-may_look
serve_both-requires-clause-may_look g c κs within = λ were is place d less. record { own = tt; left_is = let few = c.requires.turns.1 in omega (arith, few) }

pub returns-clause-work : goal.returns-clause-work
returns-clause-work g c =
    let trace : TraceTells g.row.T.Denot = record { list = g.T.Trace.list; seen = λ own. None; limit = g.T.Trace.limit } in
    let made = c.args.end.made in
    let r = c.conclude-ending.result in
    let first = c.seated-workers.result.items in
    let later = c.serve_both.new.workers.items in
    let desk : DeskState = state_of r.receiver (g.T.Trace.list r.trace) (g.T.Trace.limit r.trace) (g.K.Sink.contents r.sink) (g.K.Sink.faults r.sink) in
    let tells : LinkTells g.row.L.Denot = record { reads = g.L.Link.reads; taken = g.L.Link.taken; knows = g.L.Link.knows; ends = g.L.Link.ends; faults = g.L.Link.faults } in
    let given : Given = g.N.DeskOrigin.given in
    let same : given ≡ given_to (setup_of g.T.Trace.limit made) (g.K.Sink.contents c.args.sink) (g.K.Sink.faults c.args.sink) = c.requires.given in
    let stands : (steps : List Step) → desk.kept ≡ Some steps → StandsFor given desk (reverse steps) = c.conclude-ending.ensures.stands in
    let slice : Finds trace r.ending given desk c.as_slice.result.now = record {
      spent = c.conclude-ending.ensures.spent;
      full = c.conclude-ending.ensures.full;
      torn = c.conclude-ending.ensures.torn;
      down = c.conclude-ending.ensures.down;
      done = c.conclude-ending.ensures.done;
    } in
    let finds : Finds trace r.ending given desk later = subst (λ ws. Finds trace r.ending given desk ws) c.as_slice.ensures.value slice in
    record {
      were = map (told_by trace) first;
      are = map (told_by trace) later;
      desk = desk;
      links_had = links_told trace first ∙ c.seated-workers.ensures.links;
      clocks_had = worker_clocks_told trace first ∙ c.seated-workers.ensures.clocks;
      begun = all_new trace (setup_of g.T.Trace.limit made) made.seats.items first c.seated-workers.ensures.seats refl c.requires.made.receiving.seats c.seated-workers.ensures.ends;
      links_have = links_told trace later ∙ sym c.unseated.ensures.links;
      clocks_have = worker_clocks_told trace later ∙ sym c.unseated.ensures.clocks;
      as_many = length-map later (told_by trace) ∙ (c.serve_both.ensures.count ∙ sym (length-map first (told_by trace)));
      served = all_served (given_to (setup_of g.T.Trace.limit made) (g.K.Sink.contents c.args.sink) (g.K.Sink.faults c.args.sink)) g.C.Clock.moments tells trace c.args.limits.now first later
          (λ i d less.
          subst (λ x. ServesOn x g.C.Clock.moments tells trace c.args.limits.now i (slice_index_or first i d) (slice_index_or later i d)) same
          (c.serve_both.ensures.on i d less).on);
      tells_steps = c.conclude-ending.ensures.tells ∙ ap (λ (x : Given). x.tells_steps) same;
      contents = refl;
      faults = refl;
      counts_are = c.counts.ensures.value;
      stands = λ steps is. subst (λ x. StandsFor x desk (reverse steps)) same (stands steps is);
      fault = subst (λ (n : ℕ). RoseWhere (is_write_fault r.ending) n (g.K.Sink.faults r.sink)) (ap (λ (x : Given). x.faults) same) c.conclude-ending.ensures.fault;
      ends = subst (λ x. EndsAs r.ending x desk (map (told_by trace) later) c.counts.result) same
          (ends_as trace r.ending given desk later c.counts.result
          (exactly given desk _ c.counts.result (omega (arith, c.requires.made.receiving.delay, ap (λ (x : Given). x.settings.limits.playout_delay) same)) c.conclude-ending.ensures.settings c.counts.ensures.value stands) finds);
      sure = kept_sure (g.T.Trace.limit made.trace);
    }

pub returns-clause-looked : goal.returns-clause-looked
returns-clause-looked g c =
    let clocks = c.args.beside.now.items in
    let passes = c.args.end.passes.items in
    let seated = c.seat_sides.ensures.seated 0 (omega (arith, c.requires.made.passes)) in
    let l = c.serve_both.ensures.looked (seated_sides 0 clocks passes) seated.1 in
    let back = c.unseat_sides.ensures.value l.0 l.1 in
    record {
      are = map without_pass l.0;
      clocks_have = clocks_told l.0 ∙ sym (back.0 ∙ ap (λ cs. cs ++ map side_clock l.0) c.seat_sides.ensures.none);
      looked = subst (λ ws. LookedAt (LooksAt g.K.Sink.contents g.K.Sink.faults g.K.Beside.looks) g.C.Clock.moments c.args.limits.now ws (map without_pass l.0)) (seated_told 0 clocks passes c.requires.made.passes)
          (looked_told _ _ g.C.Clock.moments c.args.limits.now _ (seated_sides 0 clocks passes) l.0 l.2);
    }

pub unseat_sides-requires : goal.unseat_sides-requires
unseat_sides-requires g c =
    let clocks = c.args.beside.now.items in
    let passes = c.args.end.passes.items in
    let seated = c.seat_sides.ensures.seated 0 (omega (arith, c.requires.made.passes)) in
    let l = c.serve_both.ensures.looked (seated_sides 0 clocks passes) seated.1 in
    let parts = ap length l.1 ∙ parts_count g.row.L.Denot g.row.C.Denot g.row.T.Denot l.0 in
    let sides = side_count 0 clocks passes c.requires.made.passes in
    let empty = ap length c.seat_sides.ensures.none in
    let left = ap length seated.0 in
    let clock_room : length c.args.beside.now.items ≤ vec_capacity c.args.beside.now = search rules in
    let pass_room : length c.args.end.passes.items ≤ vec_capacity c.args.end.passes = search rules in
    record {
      clocks = omega (arith, parts, l.2.count, sides, empty, clock_room, c.seat_sides.ensures.room.0);
      passes = omega (arith, parts, l.2.count, sides, left, pass_room, c.seat_sides.ensures.room.1, c.requires.made.passes);
    }

pub returns-clause-beside : goal.returns-clause-beside
returns-clause-beside g c =
    let clocks = c.args.beside.now.items in
    let passes = c.args.end.passes.items in
    let seated = c.seat_sides.ensures.seated 0 (omega (arith, c.requires.made.passes)) in
    let l = c.serve_both.ensures.looked (seated_sides 0 clocks passes) seated.1 in
    let back = c.unseat_sides.ensures.value l.0 l.1 in
    ap length (back.0 ∙ ap (λ cs. cs ++ map side_clock l.0) c.seat_sides.ensures.none) ∙ (length-map l.0 side_clock ∙ (l.2.count ∙ side_count 0 clocks passes c.requires.made.passes))
