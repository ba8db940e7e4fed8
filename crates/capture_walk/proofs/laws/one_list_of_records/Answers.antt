use Rattle.capture_walk.proofs.FileLemmas.{one_list}
use Rattle.capture_walk.proofs.laws.one_list_of_records.Goals as goal

pub returns : goal.returns
returns c = one_list
