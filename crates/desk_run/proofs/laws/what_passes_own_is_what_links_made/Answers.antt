-- Step by step, by the pass that added it.
use Rattle.desk_run.proofs.AgreeLemmas.{agrees}
use Rattle.desk_run.proofs.laws.what_passes_own_is_what_links_made.Goals as goal

pub returns : goal.returns
returns c = agrees
