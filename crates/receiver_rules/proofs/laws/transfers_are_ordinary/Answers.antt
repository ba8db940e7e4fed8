use Rattle.receiver_rules.proofs.SentLemmas.{ordinary_by_epochs}
use Rattle.receiver_rules.proofs.SentEpochsLemmas.{known, foreign}
use Rattle.receiver_rules.proofs.laws.transfers_are_ordinary.Goals as goal

pub returns-clause-copies : goal.returns-clause-copies
returns-clause-copies c = λ limits streams run tick epoch n again steady delay are. known limits streams tick epoch n again run steady delay are

pub returns-clause-ahead : goal.returns-clause-ahead
returns-clause-ahead c = λ limits streams run tick epoch n again steady delay never are. ordinary_by_epochs limits streams tick epoch n again run steady delay never are

pub returns-clause-others : goal.returns-clause-others
returns-clause-others c = λ limits streams run tick arrival steady delay are. foreign limits streams tick arrival run steady delay are
