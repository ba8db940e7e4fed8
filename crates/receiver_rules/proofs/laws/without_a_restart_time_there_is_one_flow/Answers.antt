use Rattle.receiver_rules.proofs.OneFlowLemmas.{anchor_one, accepted_one, verdict_one, release_one}
use Rattle.receiver_rules.proofs.laws.without_a_restart_time_there_is_one_flow.Goals as goal

pub returns-clause-anchor : goal.returns-clause-anchor
returns-clause-anchor c = anchor_one

pub returns-clause-accepted : goal.returns-clause-accepted
returns-clause-accepted c = accepted_one

pub returns-clause-verdicts : goal.returns-clause-verdicts
returns-clause-verdicts c = verdict_one

pub returns-clause-release : goal.returns-clause-release
returns-clause-release c = release_one
