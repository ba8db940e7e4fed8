-- A new reader has read nothing.
use Rattle.capture_walk.proofs.GoingLemmas.{new_has_read}
use Rattle.test_report.proofs.pages.reported_with.Goals as goal

pub report-end-requires-clause-start : goal.report-end-requires-clause-start
report-end-requires-clause-start c = new_has_read _ _ _ c.over-reader.ensures.value
