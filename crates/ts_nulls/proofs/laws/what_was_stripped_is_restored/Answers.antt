use Rattle.ts_nulls.proofs.LawLemmas.{restoring-stripped}
use Rattle.ts_nulls.proofs.laws.what_was_stripped_is_restored.Goals as goal

pub returns : goal.returns
returns c = restoring-stripped
