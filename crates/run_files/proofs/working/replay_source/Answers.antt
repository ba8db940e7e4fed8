-- A new reader has read nothing.
use Rattle.capture_walk.proofs.GoingLemmas.{new_has_read}
use Rattle.run_files.proofs.working.replay_source.Goals as goal

pub replay_records-requires-clause-start : goal.replay_records-requires-clause-start
replay_records-requires-clause-start g c = new_has_read _ _ _ c.over.ensures.value
