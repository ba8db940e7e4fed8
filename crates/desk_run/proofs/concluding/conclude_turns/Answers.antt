-- The one history, and the end.
use Rattle.desk_run.proofs.ConcludeLemmas.{has_concluded}
use Rattle.desk_run.proofs.concluding.conclude_turns.Goals as goal

pub close-parts-requires-clause-all : goal.close-parts-requires-clause-all
close-parts-requires-clause-all g c = record { all = c.requires.all; each = λ k p e. let mine = c.requires.own k p e in (mine.own, mine.number) }

pub returns : goal.returns
returns g c = record {
  concluded = λ own owned.
      let closed = c.close-parts.ensures.closed in
      has_concluded c.args.desk g.N.DeskOrigin.given g.K.Sink.contents g.K.Sink.faults c.args.passes.items c.close-parts.result _ _ _ _
      closed (c.tell_end-answer.ensures.ended _ closed.stood) c.is_cut_off.ensures.value c.requires.own own owned;
}
