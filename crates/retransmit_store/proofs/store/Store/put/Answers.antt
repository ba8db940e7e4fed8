use Rattle.std.proofs.Common.{◌+◌, ◌∷◌, None, length, sym, ap, subst, arith, length-take}
use Rattle.circular_buffer.specs.Buffer.{Buffer}
use Rattle.sender_rules.specs.Sendings.{First, AreFalling}
use Rattle.sender_rules.proofs.StoredLemmas.{falling_take}
use Rattle.retransmit_store.specs.declared.store.Stored.{Stored}
use Rattle.retransmit_store.specs.State.{StoreState, IsNext, IsStoreAfter}
use Rattle.retransmit_store.proofs.StoreLemmas.{numbers_of, falling_put, next_put}
use Rattle.retransmit_store.proofs.HistoryLemmas.{put_after}
use Rattle.retransmit_store.proofs.store.Store.put.Goals as goal

pub invariant_of-self : goal.invariant_of-self
invariant_of-self c =
    let items = ap (λ b. b.items) c.push_front.ensures.items in
    let size = ap (λ b. b.capacity) c.push_front.ensures.items in
    let new : Stored = record { sent = c.args.sent; mark = None } in
    let old = c.self.inside.packets in
    let next = subst (λ s. IsNext s.packets c.args.sent.number) (sym c.self.view_is) c.requires.next in (
      omega (arith, size, c.self.invariant.0),
      omega (arith, size, c.self.invariant.1),
      omega (arith, size, ap length items, length-take old.capacity (new ∷ old.items)),
      subst (λ ps. AreFalling (numbers_of ps)) (sym items) (falling_take (λ p. p.sent.number) old.capacity (new ∷ old.items) (falling_put new old.items c.self.invariant.3 next)),
    )

pub returns-clause-history : goal.returns-clause-history
returns-clause-history c = λ history after.
    let old = c.self.inside.packets in
    let next = subst (λ s. IsNext s.packets c.args.sent.number) (sym c.self.view_is) c.requires.next in
    let before = subst (λ (s : StoreState). IsStoreAfter s history) (sym c.self.view_is) after in
    subst (λ (b : Buffer Stored). IsStoreAfter (record { size = b.capacity; packets = b.items }) (First c.args.sent ∷ history)) (sym c.push_front.ensures.items)
    (put_after c.args.sent (record { size = old.capacity; packets = old.items }) history c.self.invariant.3 next before)

pub returns-clause-next : goal.returns-clause-next
returns-clause-next c =
    subst (λ (b : Buffer Stored). IsNext b.items (c.args.sent.number + 1)) (sym c.push_front.ensures.items)
    (next_put (record { sent = c.args.sent; mark = None }) c.self.inside.packets.items c.self.inside.packets.capacity c.self.invariant.0)
