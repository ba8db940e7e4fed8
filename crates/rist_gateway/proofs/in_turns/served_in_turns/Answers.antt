-- What the workers, the side workers and the desk leave, together.
use Rattle.std.proofs.Common.{◌≡◌, ◌∙◌, ◌<◌, ◌≤◌, ◌+◌, ◌++◌, ℕ, List, map, length, slice_get, take, drop, Some, ap, sym, subst, arith, rules}
use Rattle.std.specs.Prelude.{slice_index_or, vec_capacity}
use Rattle.std.proofs.lemmas.List.{length-append, length-drop, length-map, length-take-le}
use Rattle.outside_net.specs.Links.{LinkTells}
use Rattle.rist_desk.specs.Serving.{ServesOn}
use Rattle.turn_lock.specs.declared.pass.Pass.{Pass}
use Rattle.turn_desk.specs.Asides.{LooksAt}
use Rattle.turn_desk.specs.Own.{IsBeside, IsOf, own_list}
use Rattle.desk_run.specs.Receiving.{own_lists}
use Rattle.desk_run.specs.Run.{Receives, outside}
use Rattle.desk_run.specs.Setup.{given_to}
use Rattle.desk_run.specs.Turns.{AreOwned, FitsAfter, HasConcluded}
use Rattle.desk_run.specs.Workers.{link_of, clock_of, trace_of}
use Rattle.desk_run.proofs.TurnsLemmas.{RunsInTurns, owned_first, pass_at, pass_tells, receives}
use Rattle.rist_gateway.specs.Workers.{LookedAt, side_clock}
use Rattle.rist_gateway.specs.Inside.Sides.{seated_sides, side_pass, without_pass}
use Rattle.rist_desk.specs.declared.step.Step.{Step}
use Rattle.turn_lock.specs.Passes.{turns_left}
use Rattle.turn_desk.specs.declared.shared.Shared.{Shared}
use Rattle.rist_gateway.specs.declared.side_worker.SideWorker.{SideWorker}
use Rattle.rist_gateway.specs.Workers.{MayLook, sides_as}
use Rattle.rist_gateway.specs.Inside.Sides.{LookedWith, sending_parts}
use Rattle.rist_gateway.proofs.LendLemmas.{clocks_told, looked_told, parts_count, seated_told, side_count, sides_same}
use Rattle.rist_gateway.proofs.TurnLemmas.{first_place, fresh_nothing, passes_are, sides_may, sides_none, workers_may}
use Rattle.rist_gateway.proofs.in_turns.served_in_turns.Given as given
use Rattle.rist_gateway.proofs.in_turns.served_in_turns.Goals as goal
use Rattle.rist_gateway.proofs.in_turns.served_in_turns.Goals.{After-serve_both}

pub seat_sides-requires : goal.seat_sides-requires
seat_sides-requires g c = record {
  few = omega (arith, c.requires.few);
  many = omega (arith, c.requires.passes.all, c.requires.count);
  room = omega (arith, c.requires.part_room);
  no_parts = c.requires.no_parts;
}

pub seated_with-workers-requires-clause-own : goal.seated_with-workers-requires-clause-own
seated_with-workers-requires-clause-own g c =
    let n = length c.args.links.now.items in
    let passes = c.args.passes.items in
    let seated = c.seat_sides.ensures.seated n (c.requires.passes.all ∙ c.requires.count) in
    ap length seated.0 ∙ length-take-le n passes (omega (arith, c.requires.passes.all, c.requires.count))

pub serve_both-requires-clause-room : goal.serve_both-requires-clause-room
serve_both-requires-clause-room g c κs within =
    let n = length c.args.links.now.items in
    let clocks = c.args.beside.now.items in
    let passes = c.args.passes.items in
    let all = c.requires.passes.all ∙ c.requires.count in
    let seated = c.seat_sides.ensures.seated n all in
    let behind : length (drop n passes) ≡ length clocks = length-drop n passes ∙ omega (arith, all) in
    let many = sym (length-map c.seated_with-workers.result.items link_of) ∙ ap length c.seated_with-workers.ensures.links in
    record {
      sides = seated_sides 0 clocks (drop n passes);
      parts = seated.1;
      room = omega (arith, many, side_count 0 clocks (drop n passes) behind, c.requires.part_room, c.seat_sides.ensures.room.2);
    }

pub serve_both-requires-clause-may : goal.serve_both-requires-clause-may
serve_both-requires-clause-may g c κs within =
    let n = length c.args.links.now.items in
    let passes = c.args.passes.items in
    let seated = c.seat_sides.ensures.seated n (c.requires.passes.all ∙ c.requires.count) in
    workers_may c.args.desk c.args.limits.now n passes c.seated_with-workers.result.items c.requires.passes c.requires.turns.1 (c.seated_with-workers.ensures.own ∙ seated.0)

pub serve_both-requires-clause-may_look : goal.serve_both-requires-clause-may_look
serve_both-requires-clause-may_look g c κs within = λ were is place d less.
    let n = length c.args.links.now.items in
    let clocks = c.args.beside.now.items in
    let passes = c.args.passes.items in
    let desk = c.args.desk in
    let limits = c.args.limits.now in
    let all = c.requires.passes.all ∙ c.requires.count in
    let seated = c.seat_sides.ensures.seated n all in
    let behind : length (drop n passes) ≡ length clocks = length-drop n passes ∙ omega (arith, all) in
    let many = sym (length-map c.seated_with-workers.result.items link_of) ∙ ap length c.seated_with-workers.ensures.links in
    let same = sides_same (seated_sides 0 clocks (drop n passes)) were (sym seated.1 ∙ is) in
    subst (λ (m : ℕ). MayLook (sides_as IsBeside turns_left (LooksAt g.K.Sink.contents g.K.Sink.faults g.K.Beside.looks)) desk limits (m + place) (slice_index_or were place d)) (sym many)
    (subst (λ (ws : List (SideWorker g.row.C.Denot (Pass Step (Shared g.row.N.Denot g.row.K.Denot)))). (k : ℕ) (e : _) → k < length ws → MayLook (sides_as IsBeside turns_left (LooksAt g.K.Sink.contents g.K.Sink.faults g.K.Beside.looks)) desk limits (n + k) (slice_index_or ws k e)) same
    (sides_may (LooksAt g.K.Sink.contents g.K.Sink.faults g.K.Beside.looks) desk limits n passes clocks c.requires.passes c.requires.turns.1 behind) place d less)

-- the side workers as they came back
after_of : (g : given.Over) (c : After-serve_both g)
    → (are : List (SideWorker g.row.C.Denot (Pass Step (Shared g.row.N.Denot g.row.K.Denot)))) × (c.serve_both.new.parts.items ≡ sending_parts are)
    × LookedWith (sides_as IsBeside turns_left (LooksAt g.K.Sink.contents g.K.Sink.faults g.K.Beside.looks)) c.args.desk g.C.Clock.moments c.args.limits.now (length c.seated_with-workers.result.items)
    (seated_sides 0 c.args.beside.now.items (drop (length c.args.links.now.items) c.args.passes.items)) are
after_of g c =
    let n = length c.args.links.now.items in
    let seated = c.seat_sides.ensures.seated n (c.requires.passes.all ∙ c.requires.count) in
    c.serve_both.ensures.looked (seated_sides 0 c.args.beside.now.items (drop n c.args.passes.items)) seated.1

-- how many workers and side workers there are, before and after
record Counts (workers later sides are inputs outputs : ℕ) : Type 0 where
  workers_are : workers ≡ inputs
  later_are : later ≡ inputs
  sides_are : sides ≡ outputs
  are_are : are ≡ outputs

counts_of : (g : given.Over) (c : After-serve_both g)
    → Counts (length c.seated_with-workers.result.items) (length c.serve_both.new.workers.items)
    (length (seated_sides 0 c.args.beside.now.items (drop (length c.args.links.now.items) c.args.passes.items))) (length (after_of g c).0)
    (length c.args.links.now.items) (length c.args.beside.now.items)
counts_of g c =
    let n = length c.args.links.now.items in
    let clocks = c.args.beside.now.items in
    let passes = c.args.passes.items in
    let all = c.requires.passes.all ∙ c.requires.count in
    let behind : length (drop n passes) ≡ length clocks = length-drop n passes ∙ omega (arith, all) in
    let many = sym (length-map c.seated_with-workers.result.items link_of) ∙ ap length c.seated_with-workers.ensures.links in
    let sides = side_count 0 clocks (drop n passes) behind in
    record { workers_are = many; later_are = c.serve_both.ensures.count ∙ many; sides_are = sides; are_are = (after_of g c).2.count ∙ sides }

-- those of the side workers
sides_of : (g : given.Over) (c : After-serve_both g)
    → (k : ℕ) (d : SideWorker g.row.C.Denot (Pass Step (Shared g.row.N.Denot g.row.K.Denot))) → k < length (after_of g c).0
    → IsBeside c.args.desk (length c.serve_both.new.workers.items + k) (slice_index_or (after_of g c).0 k d).pass
sides_of g c = λ k d less.
    let l = after_of g c in
    let n = counts_of g c in
    subst (λ (m : ℕ). IsBeside c.args.desk (m + k) (slice_index_or l.0 k d).pass) (sym c.serve_both.ensures.count)
    (l.2.looked k d (omega (arith, less, n.sides_are, n.are_are))).own

pub unseated_with-requires : goal.unseated_with-requires
unseated_with-requires g c =
    let s = (goal.at.unseated_with-requires g c).After-serve_both in
    let n = counts_of g s in
    let links : length c.args.links.now.items ≤ vec_capacity c.args.links.now = search rules in
    let clocks : length c.args.clocks.now.items ≤ vec_capacity c.args.clocks.now = search rules in
    let passes : length c.args.passes.items ≤ vec_capacity c.args.passes = search rules in
    let room = c.seated_with-workers.ensures.same_room in
    record {
      none = c.seated_with-workers.ensures.no_links;
      link_room = omega (arith, n.later_are, links, room.0);
      clock_room = omega (arith, n.later_are, clocks, room.1, c.requires.clocks);
      own_room = omega (arith, n.later_are, passes, room.2, c.seat_sides.ensures.room.1, c.requires.passes.all, c.requires.count);
    }

pub unseat_sides-requires : goal.unseat_sides-requires
unseat_sides-requires g c =
    let s = (goal.at.unseat_sides-requires g c).After-serve_both in
    let n = counts_of g s in
    let l = after_of g s in
    let clocks : length c.args.beside.now.items ≤ vec_capacity c.args.beside.now = search rules in
    let passes : length c.args.passes.items ≤ vec_capacity c.args.passes = search rules in
    let parts = ap length l.1 ∙ parts_count g.row.L.Denot g.row.C.Denot (Pass Step (Shared g.row.N.Denot g.row.K.Denot)) l.0 in
    let empty = ap length c.seat_sides.ensures.none in
    let own = ap length c.unseated_with.ensures.own ∙ length-map c.serve_both.new.workers.items trace_of in
    record {
      clocks = omega (arith, parts, n.are_are, empty, clocks, c.seat_sides.ensures.room.0);
      passes = omega (arith, parts, n.are_are, own, n.later_are, passes, c.seated_with-workers.ensures.same_room.2, c.unseated_with.ensures.room.2, c.seat_sides.ensures.room.1, c.requires.passes.all, c.requires.count);
    }

pub conclude_turns-cut-requires-clause-all : goal.conclude_turns-cut-requires-clause-all
conclude_turns-cut-requires-clause-all g c =
    let s = (goal.at.conclude_turns-cut-requires-clause-all g c).After-serve_both in
    let were = after_of g s in
    let back = (c.unseat_sides.ensures.value were.0 were.1).1 ∙ ap (λ ps. ps ++ map side_pass were.0) c.unseated_with.ensures.own in
    let n = counts_of g s in
    let later = c.serve_both.new.workers.items in
    let are = were.0 in
    let long = ap length back ∙ length-append (map trace_of later) (map side_pass are) in
    omega (arith, long, length-map later (trace_of {L = g.row.L.Denot} {C = g.row.C.Denot}), length-map are (side_pass {D = g.row.C.Denot}), n.later_are, n.are_are, c.requires.count)

pub conclude_turns-cut-requires-clause-own : goal.conclude_turns-cut-requires-clause-own
conclude_turns-cut-requires-clause-own g c =
    let s = (goal.at.conclude_turns-cut-requires-clause-own g c).After-serve_both in
    let were = after_of g s in
    let back = (c.unseat_sides.ensures.value were.0 were.1).1 ∙ ap (λ ps. ps ++ map side_pass were.0) c.unseated_with.ensures.own in
    let n = counts_of g s in
    let later = c.serve_both.new.workers.items in
    let are = were.0 in
    subst (λ (ps : List (Pass Step (Shared g.row.N.Denot g.row.K.Denot))). (k : ℕ) (p : _) → slice_get ps k ≡ Some p → IsOf c.args.desk k p) (sym back)
    (passes_are c.args.desk later are (λ i d less. (c.serve_both.ensures.on i d (omega (arith, less, n.later_are, n.workers_are))).leaves.own) (sides_of g s))

pub returns-clause-work : goal.returns-clause-work
returns-clause-work g c = λ s contents faults given_is free told delay session.
    let served = (goal.at.returns-clause-work g c).After-serve_both in
    let were = after_of g served in
    let back = (c.unseat_sides.ensures.value were.0 were.1).1 ∙ ap (λ ps. ps ++ map side_pass were.0) c.unseated_with.ensures.own in
    let tells : LinkTells g.row.L.Denot = record { reads = g.L.Link.reads; taken = g.L.Link.taken; knows = g.L.Link.knows; ends = g.L.Link.ends; faults = g.L.Link.faults } in
    let n = length c.args.links.now.items in
    let seated = c.seat_sides.ensures.seated n (c.requires.passes.all ∙ c.requires.count) in
    let ws = c.seated_with-workers.result.items in
    let later = c.serve_both.new.workers.items in
    let are = were.0 in
    let limits = c.args.limits.now in
    let first = take n c.args.passes.items in
    let after = c.ending_after-after.result in
    let closed = c.conclude_turns-cut.result in
    let runs : RunsInTurns (given_to s contents faults) g.C.Clock.moments tells s limits ws later c.args.openers.items first after = record {
      openers_are = c.seated_with-workers.ensures.openers;
      session = session;
      passes_are = c.seated_with-workers.ensures.own ∙ seated.0;
      fresh = fresh_nothing c.args.desk n c.args.passes.items c.requires.passes;
      unended = c.seated_with-workers.ensures.ends;
      as_many = c.serve_both.ensures.count;
      served = λ i d less.
          subst (λ x. ServesOn x g.C.Clock.moments tells pass_tells limits i (slice_index_or ws i d) (slice_index_or later i d)) given_is
          (c.serve_both.ensures.on i d less).on;
      stopped = λ i d less. (c.serve_both.ensures.on i d less).leaves.stopped;
      fault = λ i d less. (c.serve_both.ensures.on i d less).leaves.fault;
      fits = subst (λ l. FitsAfter l after) c.as_slice.ensures.value c.ending_after-after.ensures.fits;
    } in
    let concluded = subst (λ x. HasConcluded x (own_lists own_list later) c.unseat_sides.new.passes.items closed.cut closed.receiver (g.K.Sink.contents closed.sink) (g.K.Sink.faults closed.sink)) given_is
    (c.conclude_turns-cut.ensures.concluded (own_lists own_list later)
    (subst (AreOwned (own_lists own_list later)) (sym back) (owned_first (map side_pass are) (sides_none c.args.desk (length later) are (sides_of g served)) later))) in
    subst (λ e. Receives g.C.Clock.moments tells s limits (outside c.args.links.now.items c.args.clocks.now.items contents faults) (outside c.unseated_with.new.links.items c.unseated_with.new.clocks.items (g.K.Sink.contents closed.sink) (g.K.Sink.faults closed.sink)) c.counts.result e) (sym c.ending_by.ensures.value)
    (receives g.C.Clock.moments tells s limits ws later c.args.openers.items first after contents faults runs free told
    c.unseat_sides.new.passes.items closed.cut closed.receiver (g.K.Sink.contents closed.sink) (g.K.Sink.faults closed.sink) c.counts.result
    c.args.links.now.items c.unseated_with.new.links.items c.args.clocks.now.items c.unseated_with.new.clocks.items
    c.seated_with-workers.ensures.links (sym c.unseated_with.ensures.links)
    c.seated_with-workers.ensures.clocks (sym c.unseated_with.ensures.clocks)
    concluded (λ k w e. subst (λ l. slice_get l k ≡ Some w.trace) (sym back) (first_place (map trace_of later) (map side_pass are) k w.trace (pass_at later k w e))) c.counts.ensures.value delay)

pub returns-clause-looked : goal.returns-clause-looked
returns-clause-looked g c =
    let s = (goal.at.returns-clause-looked g c).After-serve_both in
    let n = length c.args.links.now.items in
    let clocks = c.args.beside.now.items in
    let passes = c.args.passes.items in
    let all = c.requires.passes.all ∙ c.requires.count in
    let behind : length (drop n passes) ≡ length clocks = length-drop n passes ∙ omega (arith, all) in
    let l = after_of g s in
    let back = c.unseat_sides.ensures.value l.0 l.1 in
    record {
      are = map without_pass l.0;
      clocks_have = clocks_told l.0 ∙ sym (back.0 ∙ ap (λ cs. cs ++ map side_clock l.0) c.seat_sides.ensures.none);
      looked = subst (λ ws. LookedAt (LooksAt g.K.Sink.contents g.K.Sink.faults g.K.Beside.looks) g.C.Clock.moments c.args.limits.now ws (map without_pass l.0)) (seated_told 0 clocks (drop n passes) behind)
          (looked_told _ _ g.C.Clock.moments c.args.limits.now _ (seated_sides 0 clocks (drop n passes)) l.0 l.2);
    }

pub returns-clause-links : goal.returns-clause-links
returns-clause-links g c =
    let s = (goal.at.returns-clause-links g c).After-serve_both in
    let n = counts_of g s in
    ap length c.unseated_with.ensures.links ∙ (length-map c.serve_both.new.workers.items link_of ∙ n.later_are)

pub returns-clause-clocks : goal.returns-clause-clocks
returns-clause-clocks g c =
    let s = (goal.at.returns-clause-clocks g c).After-serve_both in
    let n = counts_of g s in
    ap length c.unseated_with.ensures.clocks ∙ (length-map c.serve_both.new.workers.items clock_of ∙ (n.later_are ∙ sym c.requires.clocks))

pub returns-clause-beside : goal.returns-clause-beside
returns-clause-beside g c =
    let s = (goal.at.returns-clause-beside g c).After-serve_both in
    let n = counts_of g s in
    let l = after_of g s in
    let back = c.unseat_sides.ensures.value l.0 l.1 in
    ap length (back.0 ∙ ap (λ cs. cs ++ map side_clock l.0) c.seat_sides.ensures.none) ∙ (length-map l.0 side_clock ∙ n.are_are)
