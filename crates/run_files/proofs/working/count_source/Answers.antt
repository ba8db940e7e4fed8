-- A new reader has read nothing.
use Rattle.capture_walk.proofs.GoingLemmas.{new_has_read}
use Rattle.run_files.proofs.working.count_source.Goals as goal

pub count_records-requires-clause-start : goal.count_records-requires-clause-start
count_records-requires-clause-start g c = new_has_read _ _ _ c.over.ensures.value
