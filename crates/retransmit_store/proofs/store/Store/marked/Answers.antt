use Rattle.std.proofs.Common.{◌∙◌}
use Rattle.retransmit_store.proofs.HistoryLemmas.{marks_are}
use Rattle.retransmit_store.proofs.store.Store.marked.Goals as goal

pub returns-clause-history : goal.returns-clause-history
returns-clause-history c = λ history after. c.mark_of.ensures.value ∙ marks_are c.args.self.now history c.args.number after
