use Rattle.capture_walk.proofs.FileLemmas.{walk_completes}
use Rattle.capture_walk.proofs.laws.a_file_is_walked_to_its_end.Goals as goal

pub returns : goal.returns
returns c = walk_completes
