use Rattle.std.proofs.Common.{◌∷◌, subst, sym}
use Rattle.sender_rules.specs.Sendings.{Again}
use Rattle.retransmit_store.specs.State.{StoreState, IsNext, IsStoreAfter}
use Rattle.retransmit_store.proofs.StoreLemmas.{next_marked}
use Rattle.retransmit_store.proofs.HistoryLemmas.{mark_after}
use Rattle.retransmit_store.proofs.store.Store.mark.Goals as goal

pub returns-clause-history : goal.returns-clause-history
returns-clause-history c = λ history after.
    subst (λ (s : StoreState). IsStoreAfter s (Again c.args.number c.args.at ∷ history)) (sym c.put_mark.ensures.value) (mark_after c.args.number c.args.at c.args.self.now history after)

pub returns-clause-next : goal.returns-clause-next
returns-clause-next c = λ n next. subst (λ (s : StoreState). IsNext s.packets n) (sym c.put_mark.ensures.value) (next_marked c.args.number c.args.at n c.args.self.now.packets next)
