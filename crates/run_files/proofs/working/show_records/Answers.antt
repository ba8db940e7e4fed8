-- The walk's end says what is shown, and its source comes back.
use Rattle.std.proofs.Common.{subst}
use Rattle.block_source.specs.Block.{most_ahead}
use Rattle.capture_walk.specs.Leaves.{Leaves, passage}
use Rattle.capture_walk.proofs.EndingLemmas.{given_back}
use Rattle.rist_wire.specs.declared.session.Session.{Session}
use Rattle.rist_show.specs.Lines.{lines}
use Rattle.run_files.proofs.working.show_records.Goals as goal

pub returns-clause-work : goal.returns-clause-work
returns-clause-work g c = (
  c.show-end.result,
  c.from.ensures,
  given_back (g.R.Records.form c.args.reader) _ _ most_ahead (g.R.Records.remaining c.args.reader) (g.R.Records.remaining c.show-end.new.reader) _ (g.K.Sink.contents c.args.sink) (g.K.Sink.contents c.show-end.new.sink)
      (g.R.Records.ahead c.show-end.new.reader) c.show-end.result c.show-end.ensures.ahead c.back.ensures.value c.back.ensures.within
      (subst (λ (s : Session). Leaves (g.R.Records.form c.args.reader) (lines s) (lines s) 0 (passage (g.R.Records.remaining c.args.reader) (g.R.Records.remaining c.show-end.new.reader) (g.K.Sink.contents c.args.sink) (g.K.Sink.contents c.show-end.new.sink)) c.show-end.result)
      c.session_of-session.ensures.value c.show-end.ensures.work),
)
