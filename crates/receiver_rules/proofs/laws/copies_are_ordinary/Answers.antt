use Rattle.receiver_rules.proofs.SentLemmas.{ordinary}
use Rattle.receiver_rules.proofs.laws.copies_are_ordinary.Goals as goal

pub returns : goal.returns
returns c = λ limits p run tick n again. ordinary limits p tick n again run
