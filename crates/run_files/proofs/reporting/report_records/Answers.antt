-- The walk's end says what the report leaves, and its source comes back.
use Rattle.block_source.specs.Block.{most_ahead}
use Rattle.capture_walk.proofs.EndingLemmas.{given_back}
use Rattle.run_files.proofs.reporting.report_records.Goals as goal

pub returns-clause-work : goal.returns-clause-work
returns-clause-work g c = (
  c.report-end.result,
  c.from.ensures,
  given_back (g.R.Records.form c.args.reader) _ _ most_ahead (g.R.Records.remaining c.args.reader) (g.R.Records.remaining c.report-end.new.reader) _ (g.K.Sink.contents c.args.sink) (g.K.Sink.contents c.report-end.new.sink)
      (g.R.Records.ahead c.report-end.new.reader) c.report-end.result c.report-end.ensures.ahead c.back.ensures.value c.back.ensures.within c.report-end.ensures.work,
)
