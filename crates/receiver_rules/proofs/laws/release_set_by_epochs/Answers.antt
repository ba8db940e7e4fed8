use Rattle.receiver_rules.proofs.SentEpochsLemmas as sent
use Rattle.receiver_rules.proofs.laws.release_set_by_epochs.Goals as goal

pub returns : goal.returns
returns c = sent.release_set
