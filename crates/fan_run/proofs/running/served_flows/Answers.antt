-- What the workers and the places leave, together.
use Rattle.std.proofs.Common.{◌≡◌, ◌<◌, ◌⊎◌, inl, inr, ◌∷◌, ◌∙◌, ℕ, map, length, slice_get, Some, ap, sym, subst}
use Rattle.std.specs.Prelude.{slice_index_or}
use Rattle.outside_net.specs.Links.{LinkTells}
use Rattle.rist_desk.specs.Serving.{MayServe, ServesWith}
use Rattle.fan_desk.specs.declared.desk.FanDesk.{FanDesk}
use Rattle.fan_desk.specs.Own.{IsOf}
use Rattle.fan_desk.specs.Made.{several}
use Rattle.desk_run.specs.Turns.{FitsAfter, ending_by}
use Rattle.desk_run.specs.Workers.{clock_of, link_of, trace_of}
use Rattle.desk_run.proofs.SeatLemmas.{put_front}
use Rattle.fan_run.specs.Concluded.{AreOwnedRows, HaveConcluded}
use Rattle.fan_run.specs.Passes.{HasRooms, pass_of}
use Rattle.fan_run.specs.Run.{FlowsGiven, is_any_cut, rows_of, told_by}
use Rattle.std.specs.List.{All}
use Rattle.fan_run.proofs.RunLemmas.{Owns, RunsFlows, good_for, may_serve, owned_rows, own_tells, passes_in, receives, still_all}
use Rattle.fan_run.proofs.running.served_flows.Goals as goal

pub serve_flows-requires-clause-own : goal.serve_flows-requires-clause-own
serve_flows-requires-clause-own g c κs within =
    let seated = c.seated_with-workers in
    subst (λ l. (i : ℕ) (d : _) → i < length l → MayServe (λ (s : FanDesk _ _). Owns s g.N.FanOrigin.places) good_for c.args.tunnel c.args.limits.now i (slice_index_or l i d)) (sym c.deref_mut.ensures.value)
    (may_serve c.args.tunnel g.N.FanOrigin.places seated.result.items c.args.passes.items c.args.limits.now (ap (map pass_of) seated.ensures.own ∙ c.row_passes-own.ensures.passes)
    (subst (All (HasRooms g.N.FanOrigin.places)) (sym seated.ensures.own) c.row_passes-own.ensures.places) c.requires.passes c.requires.turns.1)

pub conclude_flows-first-requires-clause-own : goal.conclude_flows-first-requires-clause-own
conclude_flows-first-requires-clause-own g c =
    let later = c.serve_flows.new.workers in
    let front = put_front _ _ _ (sym c.deref_mut.ensures.len ∙ sym c.serve_flows.auto.workers) in
    let back = c.passes_of.ensures.passes ∙ ap (map pass_of) (c.unseated_with.ensures.own ∙ ap (map trace_of) front) in
    subst (λ desk. (k : ℕ) (p : _) → slice_get c.passes_of.new.passes.items k ≡ Some p → IsOf desk k p) (sym c.apart-desk.ensures.desk)
    (subst (λ l. (k : ℕ) (p : _) → slice_get l k ≡ Some p → IsOf c.args.tunnel k p) (sym back)
    (still_all c.args.tunnel later (λ i d less. (c.serve_flows.ensures.own i d (subst (λ n. i < n) c.serve_flows.auto.workers less)).own.0)))

pub returns-clause-work : goal.returns-clause-work
returns-clause-work g c = λ session of_session.
    let tells : LinkTells g.row.L.Denot = record { reads = g.L.Link.reads; taken = g.L.Link.taken; knows = g.L.Link.knows; ends = g.L.Link.ends; faults = g.L.Link.faults } in
    let flows : FlowsGiven = record { given = g.N.FanOrigin.given; places = g.N.FanOrigin.places; ports = g.N.FanOrigin.ports } in
    let seated = c.seated_with-workers in
    let ws = seated.result.items in
    let later = c.serve_flows.new.workers in
    let limits = c.args.limits.now in
    let end = c.conclude_flows-first in
    let left = end.result.0 ∷ end.result.1.items in
    let front = put_front _ _ _ (sym c.deref_mut.ensures.len ∙ sym c.serve_flows.auto.workers) in
    let within : (i : ℕ) → i < length ws → i < length c.deref_mut.result.now = λ i less. subst (λ l. i < length l) (sym c.deref_mut.ensures.value) less in
    let runs : RunsFlows g.C.Clock.moments tells flows session limits ws later c.args.openers.items c.args.passes.items c.ending_after-after.result = record {
      openers_are = seated.ensures.openers;
      session_is = of_session;
      passes_are = ap (map pass_of) seated.ensures.own ∙ c.row_passes-own.ensures.passes;
      fresh = λ k p e. let f = c.requires.passes.each k p e in (f.added_nothing, f.seen);
      unended = seated.ensures.ends;
      as_many = c.serve_flows.auto.workers ∙ ap length c.deref_mut.ensures.value;
      served = λ i d less.
          subst (λ l. ServesWith (several flows.ports flows.given flows.places) g.C.Clock.moments tells (own_tells flows.given) limits i (slice_index_or l i d) (slice_index_or later i d)) c.deref_mut.ensures.value
          (c.serve_flows.ensures.on i d (within i less));
      over = λ i d less why.
          let leaves = c.serve_flows.ensures.own i d (within i less) in
          by_end leaves.stopped leaves.fault why;
      knows = λ i d less. (c.serve_flows.ensures.own i d (within i less)).own.2;
      fits = subst (λ l. FitsAfter l c.ending_after-after.result) (c.as_slice.ensures.value ∙ front) c.ending_after-after.ensures.fits;
    } in
    let back = c.passes_of.ensures.passes ∙ ap (map pass_of) (c.unseated_with.ensures.own ∙ ap (map trace_of) front) in
    let rows = rows_of (map told_by later) in
    let concluded : HaveConcluded flows.given g.K.Sink.contents g.K.Sink.faults rows (passes_in later) left end.new.came.items =
    subst (λ l. HaveConcluded flows.given g.K.Sink.contents g.K.Sink.faults rows l left end.new.came.items) back
    (end.ensures.concluded rows (subst (AreOwnedRows rows) (sym back) (owned_rows later))) in
    receives g.C.Clock.moments tells g.K.Sink.contents g.K.Sink.faults flows session limits ws later c.args.openers.items c.args.passes.items c.ending_after-after.result runs left end.new.came.items c.ending_by.result
    c.args.links.now.items c.unseated_with.new.links.items c.args.clocks.now.items c.unseated_with.new.clocks.items
    seated.ensures.links (ap (map link_of) (sym front) ∙ sym c.unseated_with.ensures.links) seated.ensures.clocks (ap (map clock_of) (sym front) ∙ sym c.unseated_with.ensures.clocks)
    end.ensures.places end.ensures.room concluded
    (c.ending_by.ensures.value ∙ ap (λ b. ending_by b c.ending_after-after.result) (c.is_any_cut.ensures.value ∙ ap is_any_cut c.deref.ensures.value))
  where
    by_end : {A B C : Type 0} → (A → C) → (B → C) → A ⊎ B → C
    by_end f h (inl a) = f a
    by_end f h (inr b) = h b
