use Rattle.receiver_rules.proofs.HistoryLemmas.{opens_of_flow}
use Rattle.receiver_rules.proofs.laws.a_flow_does_not_restart_itself.Goals as goal

pub returns : goal.returns
returns c = opens_of_flow
