use Rattle.capture_walk.proofs.FileLemmas.{written_whole}
use Rattle.capture_walk.proofs.laws.a_file_is_written_by_its_records.Goals as goal

pub returns : goal.returns
returns c = written_whole
