-- The walk's end says what the replay leaves, and its source comes back.
use Rattle.block_source.specs.Block.{most_ahead}
use Rattle.capture_walk.proofs.EndingLemmas.{given_back}
use Rattle.run_files.proofs.working.replay_records.Goals as goal

pub returns-clause-work : goal.returns-clause-work
returns-clause-work g c = (
  c.replay-end.result,
  c.from.ensures,
  given_back (g.R.Records.form c.args.reader) _ _ most_ahead (g.R.Records.remaining c.args.reader) (g.R.Records.remaining c.replay-end.new.reader) _ (g.K.Sink.contents c.args.sink) (g.K.Sink.contents c.replay-end.new.sink)
      (g.R.Records.ahead c.replay-end.new.reader) c.replay-end.result c.replay-end.ensures.ahead c.back.ensures.value c.back.ensures.within c.replay-end.ensures.work,
)
