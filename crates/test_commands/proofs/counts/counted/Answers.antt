-- A new reader has read nothing.
use Rattle.capture_walk.proofs.GoingLemmas.{new_has_read}
use Rattle.test_commands.proofs.counts.counted.Goals as goal

pub count-end-requires-clause-start : goal.count-end-requires-clause-start
count-end-requires-clause-start c = new_has_read _ _ _ c.over-reader.ensures.value
