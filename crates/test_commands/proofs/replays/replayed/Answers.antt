-- A new reader has read nothing.
use Rattle.capture_walk.proofs.GoingLemmas.{new_has_read}
use Rattle.test_commands.proofs.replays.replayed.Goals as goal

pub replay-end-requires-clause-start : goal.replay-end-requires-clause-start
replay-end-requires-clause-start c = new_has_read _ _ _ c.over-reader.ensures.value
