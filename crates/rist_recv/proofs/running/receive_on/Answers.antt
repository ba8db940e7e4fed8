-- What the workers and the desk leave, together.
use Rattle.std.proofs.Common.{◌≡◌, ◌<◌, ◌∙◌, refl, map, length, ap, sym, subst, reverse, List, None, Some}
use Rattle.std.proofs.lemmas.List.{length-map}
use Rattle.std.specs.Prelude.{slice_index_or, is_some}
use Rattle.rist_desk.specs.Desk.{DeskState, Given, StandsFor, state_of}
use Rattle.outside_net.specs.Links.{LinkTells}
use Rattle.rist_desk.specs.Serving.{ServesOn, TraceTells}
use Rattle.rist_desk.specs.declared.step.Step.{Step}
use Rattle.desk_run.proofs.RunLemmas.{Finds, all_new, all_served, clocks_told, ends_as, exactly, kept_sure, links_told, none_told, same_given}
use Rattle.desk_run.proofs.SeatLemmas.{put_front}
use Rattle.desk_run.specs.Receiving.{given_by}
use Rattle.desk_run.specs.Run.{EndsAs}
use Rattle.desk_run.specs.Setup.{given_to, setup_of}
use Rattle.desk_run.specs.Workers.{told_by, link_of, clock_of}
use Rattle.rist_recv.proofs.running.receive_on.Goals as goal

pub returns-clause-work : goal.returns-clause-work
returns-clause-work g c =
    let trace : TraceTells g.row.T.Denot = record { list = g.T.Trace.list; seen = λ own. None; limit = g.T.Trace.limit } in
    let made = c.args.made in
    let r = c.receive-received.result in
    let later = c.receive-received.new.workers in
    let desk : DeskState = state_of r.receiver (g.T.Trace.list r.trace) (g.T.Trace.limit r.trace) (g.K.Sink.contents r.sink) (g.K.Sink.faults r.sink) in
    let tells : LinkTells g.row.L.Denot = record { reads = g.L.Link.reads; taken = g.L.Link.taken; knows = g.L.Link.knows; ends = g.L.Link.ends; faults = g.L.Link.faults } in
    let many : length later ≡ length c.seated-workers.result.items = c.receive-received.auto.workers ∙ ap length c.deref_mut.ensures.value in
    let given : Given = given_by (state_of made.receiver (g.T.Trace.list made.trace) (g.T.Trace.limit made.trace) (g.K.Sink.contents c.args.sink) (g.K.Sink.faults c.args.sink)) in
    let told : is_some (g.T.Trace.list made.trace) ≡ is_some (g.T.Trace.limit made.trace) = ap is_some c.requires.made.list_is ∙ none_told (is_some (g.T.Trace.limit made.trace)) in
    let same : given ≡ given_to (setup_of g.T.Trace.limit made) (g.K.Sink.contents c.args.sink) (g.K.Sink.faults c.args.sink) = same_given given (is_some (g.T.Trace.limit made.trace)) told in
    let stands : (steps : List Step) → desk.kept ≡ Some steps → StandsFor given desk (reverse steps) = c.receive-received.ensures.stands in
    let finds : Finds trace r.ending given desk later = record {
      spent = c.receive-received.ensures.spent;
      full = c.receive-received.ensures.full;
      torn = c.receive-received.ensures.torn;
      down = c.receive-received.ensures.down;
      done = c.receive-received.ensures.done;
    } in
    record {
      were = map (told_by trace) c.seated-workers.result.items;
      are = map (told_by trace) later;
      desk = desk;
      links_had = links_told trace c.seated-workers.result.items ∙ c.seated-workers.ensures.links;
      clocks_had = clocks_told trace c.seated-workers.result.items ∙ c.seated-workers.ensures.clocks;
      begun = all_new trace (setup_of g.T.Trace.limit made) made.seats.items c.seated-workers.result.items c.seated-workers.ensures.seats refl c.requires.made.seats c.seated-workers.ensures.ends;
      links_have = links_told trace later ∙ (ap (map link_of) (sym (put_front _ _ _ (sym c.deref_mut.ensures.len ∙ sym c.receive-received.auto.workers))) ∙ sym c.unseated.ensures.links);
      clocks_have = clocks_told trace later ∙ (ap (map clock_of) (sym (put_front _ _ _ (sym c.deref_mut.ensures.len ∙ sym c.receive-received.auto.workers))) ∙ sym c.unseated.ensures.clocks);
      as_many = length-map later (told_by trace) ∙ (many ∙ sym (length-map c.seated-workers.result.items (told_by trace)));
      served = all_served (given_to (setup_of g.T.Trace.limit made) (g.K.Sink.contents c.args.sink) (g.K.Sink.faults c.args.sink)) g.C.Clock.moments tells trace c.args.limits.now c.seated-workers.result.items later
          (λ i d less.
          subst (λ x. ServesOn x g.C.Clock.moments tells trace c.args.limits.now i (slice_index_or c.seated-workers.result.items i d) (slice_index_or later i d)) same
          (subst (λ ws. ServesOn given g.C.Clock.moments tells trace c.args.limits.now i (slice_index_or ws i d) (slice_index_or later i d)) c.deref_mut.ensures.value
          (c.receive-received.ensures.on i d (subst (λ ws. i < length ws) (sym c.deref_mut.ensures.value) less))));
      tells_steps = c.receive-received.ensures.tells ∙ told;
      contents = refl;
      faults = refl;
      counts_are = c.counts.ensures.value;
      stands = λ steps is. subst (λ x. StandsFor x desk (reverse steps)) same (stands steps is);
      fault = c.receive-received.ensures.fault;
      ends = subst (λ x. EndsAs r.ending x desk (map (told_by trace) later) c.counts.result) same
          (ends_as trace r.ending given desk later c.counts.result
          (exactly given desk _ c.counts.result c.requires.made.delay c.receive-received.ensures.settings c.counts.ensures.value stands) finds);
      sure = kept_sure (g.T.Trace.limit made.trace);
    }
