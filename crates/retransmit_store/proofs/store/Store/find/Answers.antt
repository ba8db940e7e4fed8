use Rattle.std.proofs.Common.{◌∙◌, ap, option_map}
use Rattle.sender_rules.specs.Stored.{packet_for}
use Rattle.retransmit_store.proofs.HistoryLemmas.{stored_are}
use Rattle.retransmit_store.proofs.store.Store.find.Goals as goal

pub returns-clause-history : goal.returns-clause-history
returns-clause-history c = λ history after.
    c.number_for.ensures.value ∙ ap (λ ps. option_map (λ p. p.number) (packet_for ps c.args.width c.args.word)) (stored_are c.args.self.now history after)
