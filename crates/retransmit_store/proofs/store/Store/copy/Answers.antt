use Rattle.std.proofs.Common.{◌∙◌, ap}
use Rattle.sender_rules.specs.Stored.{packet_with}
use Rattle.retransmit_store.proofs.HistoryLemmas.{stored_are}
use Rattle.retransmit_store.proofs.store.Store.copy.Goals as goal

pub returns-clause-history : goal.returns-clause-history
returns-clause-history c = λ history after. c.sent_under.ensures.value ∙ ap (λ ps. packet_with ps c.args.number) (stored_are c.args.self.now history after)
