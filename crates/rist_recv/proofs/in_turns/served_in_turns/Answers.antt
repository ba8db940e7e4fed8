-- What the workers and the desk leave, together.
use Rattle.std.proofs.Common.{◌≡◌, ◌<◌, ◌∙◌, ℕ, map, length, slice_get, Some, ap, sym, subst}
use Rattle.std.specs.Prelude.{slice_index_or}
use Rattle.std.proofs.lemmas.List.{length-map}
use Rattle.outside_net.specs.Links.{LinkTells}
use Rattle.rist_desk.specs.Serving.{MayServe, ServesOn}
use Rattle.turn_lock.specs.Passes.{turns_left}
use Rattle.turn_desk.specs.Own.{IsOf, own_list}
use Rattle.desk_run.specs.Receiving.{own_lists}
use Rattle.desk_run.specs.Run.{Receives, outside}
use Rattle.desk_run.specs.Setup.{given_to}
use Rattle.desk_run.specs.Turns.{AreOwned, FitsAfter, HasConcluded}
use Rattle.desk_run.specs.Workers.{link_of, clock_of, trace_of}
use Rattle.desk_run.proofs.SeatLemmas.{put_front}
use Rattle.desk_run.proofs.TurnsLemmas.{RunsInTurns, may_serve, owned_all, pass_at, pass_tells, receives, still_all}
use Rattle.rist_recv.proofs.in_turns.served_in_turns.Goals as goal

pub serve-requires-clause-own : goal.serve-requires-clause-own
serve-requires-clause-own g c κs within =
    subst (λ l. (i : ℕ) (d : _) → i < length l → MayServe IsOf turns_left c.args.desk c.args.limits.now i (slice_index_or l i d)) (sym c.deref_mut.ensures.value)
    (may_serve c.args.desk c.seated_with-workers.result.items c.args.passes.items c.args.limits.now c.seated_with-workers.ensures.own c.requires.passes c.requires.turns.1)

pub conclude_turns-cut-requires-clause-own : goal.conclude_turns-cut-requires-clause-own
conclude_turns-cut-requires-clause-own g c =
    let later = c.serve.new.workers in
    let front = put_front _ _ _ (sym c.deref_mut.ensures.len ∙ sym c.serve.auto.workers) in
    subst (λ l. (k : ℕ) (p : _) → slice_get l k ≡ Some p → IsOf c.args.desk k p) (sym (c.unseated_with.ensures.own ∙ ap (map trace_of) front))
    (still_all c.args.desk later (λ i d less. (c.serve.ensures.own i d (subst (λ n. i < n) c.serve.auto.workers less)).own))

pub conclude_turns-cut-requires-clause-all : goal.conclude_turns-cut-requires-clause-all
conclude_turns-cut-requires-clause-all g c =
    let ws = c.seated_with-workers.result.items in
    let later = c.serve.new.workers in
    let front = put_front _ _ _ (sym c.deref_mut.ensures.len ∙ sym c.serve.auto.workers) in
    ap length (c.unseated_with.ensures.own ∙ ap (map trace_of) front)
    ∙ (length-map later trace_of
    ∙ (c.serve.auto.workers
    ∙ (ap length c.deref_mut.ensures.value
    ∙ (sym (length-map ws link_of)
    ∙ (ap length c.seated_with-workers.ensures.links ∙ sym c.requires.count)))))

pub returns-clause-work : goal.returns-clause-work
returns-clause-work g c = λ s contents faults given free told delay session.
    let tells : LinkTells g.row.L.Denot = record { reads = g.L.Link.reads; taken = g.L.Link.taken; knows = g.L.Link.knows; ends = g.L.Link.ends; faults = g.L.Link.faults } in
    let ws = c.seated_with-workers.result.items in
    let later = c.serve.new.workers in
    let limits = c.args.limits.now in
    let front = put_front _ _ _ (sym c.deref_mut.ensures.len ∙ sym c.serve.auto.workers) in
    let within : (i : _) → i < length ws → i < length c.deref_mut.result.now = λ i less. subst (λ l. i < length l) (sym c.deref_mut.ensures.value) less in
    let runs : RunsInTurns (given_to s contents faults) g.C.Clock.moments tells s limits ws later c.args.openers.items c.args.passes.items c.ending_after-after.result = record {
      openers_are = c.seated_with-workers.ensures.openers;
      session = session;
      passes_are = c.seated_with-workers.ensures.own;
      fresh = λ k p e. let f = c.requires.passes.each k p e in (f.added_nothing, f.seen);
      unended = c.seated_with-workers.ensures.ends;
      as_many = c.serve.auto.workers ∙ ap length c.deref_mut.ensures.value;
      served = λ i d less.
          subst (λ x. ServesOn x g.C.Clock.moments tells pass_tells limits i (slice_index_or ws i d) (slice_index_or later i d)) given
          (subst (λ l. ServesOn g.N.DeskOrigin.given g.C.Clock.moments tells pass_tells limits i (slice_index_or l i d) (slice_index_or later i d)) c.deref_mut.ensures.value
          (c.serve.ensures.on i d (within i less)));
      stopped = λ i d less. (c.serve.ensures.own i d (within i less)).stopped;
      fault = λ i d less. (c.serve.ensures.own i d (within i less)).fault;
      fits = subst (λ l. FitsAfter l c.ending_after-after.result) (c.as_slice.ensures.value ∙ front) c.ending_after-after.ensures.fits;
    } in
    let back = c.unseated_with.ensures.own ∙ ap (map trace_of) front in
    let concluded = subst (λ x. HasConcluded x (own_lists own_list later) c.unseated_with.new.own.items c.conclude_turns-cut.result.cut c.conclude_turns-cut.result.receiver (g.K.Sink.contents c.conclude_turns-cut.result.sink) (g.K.Sink.faults c.conclude_turns-cut.result.sink)) given
    (c.conclude_turns-cut.ensures.concluded (own_lists own_list later) (subst (AreOwned (own_lists own_list later)) (sym back) (owned_all later))) in
    subst (λ e. Receives g.C.Clock.moments tells s limits (outside c.args.links.now.items c.args.clocks.now.items contents faults) (outside c.unseated_with.new.links.items c.unseated_with.new.clocks.items (g.K.Sink.contents c.conclude_turns-cut.result.sink) (g.K.Sink.faults c.conclude_turns-cut.result.sink)) c.counts.result e) (sym c.ending_by.ensures.value)
    (receives g.C.Clock.moments tells s limits ws later c.args.openers.items c.args.passes.items c.ending_after-after.result contents faults runs free told
    c.unseated_with.new.own.items c.conclude_turns-cut.result.cut c.conclude_turns-cut.result.receiver (g.K.Sink.contents c.conclude_turns-cut.result.sink) (g.K.Sink.faults c.conclude_turns-cut.result.sink) c.counts.result
    c.args.links.now.items c.unseated_with.new.links.items c.args.clocks.now.items c.unseated_with.new.clocks.items
    c.seated_with-workers.ensures.links (ap (map link_of) (sym front) ∙ sym c.unseated_with.ensures.links)
    c.seated_with-workers.ensures.clocks (ap (map clock_of) (sym front) ∙ sym c.unseated_with.ensures.clocks)
    concluded (λ k w e. subst (λ l. slice_get l k ≡ Some w.trace) (sym back) (pass_at later k w e)) c.counts.ensures.value delay)
