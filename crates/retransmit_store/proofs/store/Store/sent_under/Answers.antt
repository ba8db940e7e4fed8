use Rattle.std.proofs.Common.{◌∙◌, ap, sym, option_map}
use Rattle.retransmit_store.proofs.StoreLemmas.{with_number}
use Rattle.retransmit_store.proofs.store.Store.sent_under.Goals as goal

pub returns-in-Some : goal.returns-in-Some
returns-in-Some c = record { value = ap (option_map (λ p. p.sent)) c.in-Some.ensures.value ∙ sym (with_number c.args.self.now.packets c.args.number) }

pub returns-in-None : goal.returns-in-None
returns-in-None c = record { value = ap (option_map (λ p. p.sent)) c.in-None.ensures.value ∙ sym (with_number c.args.self.now.packets c.args.number) }
