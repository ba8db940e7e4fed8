use Rattle.ts_nulls.proofs.LawLemmas.{stays-unstripped}
use Rattle.ts_nulls.proofs.laws.what_is_not_stripped_stays.Goals as goal

pub returns : goal.returns
returns c = stays-unstripped
