use Rattle.rist_sender.specs.History.{effective_time}
use Rattle.rist_sender.specs.Calls.{asked_numbers}
use Rattle.rist_sender.proofs.FlowLemmas.{sendings_since, status_since, none_again, time_since, down_since, last_since}
use Rattle.rist_sender.proofs.laws.a_flow_begins_anew.Goals as goal

pub returns-clause-sendings : goal.returns-clause-sendings
returns-clause-sendings c = λ flow first since before. sendings_since flow first since before

pub returns-clause-report : goal.returns-clause-report
returns-clause-report c = λ flow first micros since before. status_since flow first micros since before

pub returns-clause-again : goal.returns-clause-again
returns-clause-again c = λ rules compound flow first before. none_again rules.size rules.hold (effective_time before) (asked_numbers rules.flow compound)

pub returns-clause-time : goal.returns-clause-time
returns-clause-time c = λ flow first since before. time_since flow first since before

pub returns-clause-down : goal.returns-clause-down
returns-clause-down c = λ flow first link since before. down_since flow first link since before

pub returns-clause-last : goal.returns-clause-last
returns-clause-last c = λ is_meant flow first link since before. last_since is_meant flow first link since before
