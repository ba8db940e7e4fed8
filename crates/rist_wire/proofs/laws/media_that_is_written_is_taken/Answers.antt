use Rattle.rist_wire.proofs.MediaLemmas.{media-taken}
use Rattle.rist_wire.proofs.laws.media_that_is_written_is_taken.Goals as goal

pub returns : goal.returns
returns c = media-taken
