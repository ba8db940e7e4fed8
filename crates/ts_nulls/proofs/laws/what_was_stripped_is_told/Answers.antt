use Rattle.ts_nulls.proofs.LawLemmas.{told-stripped}
use Rattle.ts_nulls.proofs.laws.what_was_stripped_is_told.Goals as goal

pub returns-clause-shape : goal.returns-clause-shape
returns-clause-shape c = λ payload kept shape e. (told-stripped payload kept shape e).0

pub returns-clause-kept : goal.returns-clause-kept
returns-clause-kept c = λ payload kept shape e. (told-stripped payload kept shape e).1
