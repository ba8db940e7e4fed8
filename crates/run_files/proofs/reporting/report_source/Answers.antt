-- A new reader has read nothing.
use Rattle.capture_walk.proofs.GoingLemmas.{new_has_read}
use Rattle.run_files.proofs.reporting.report_source.Goals as goal

pub report_records-requires-clause-start : goal.report_records-requires-clause-start
report_records-requires-clause-start g c = new_has_read _ _ _ c.over.ensures.value
