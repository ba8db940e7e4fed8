use Rattle.std.proofs.Common.{◌≡◌, ◌∙◌, ◌-◌, ℕ, List, [], sym, ap, arith}
use Rattle.std.specs.Prelude.{slice_get}
use Rattle.retransmit_store.specs.declared.store.Stored.{Stored}
use Rattle.retransmit_store.specs.State.{stored_with, stored_at}
use Rattle.retransmit_store.proofs.StoreLemmas.{stored_above, stored_below, nothing_stored}
use Rattle.retransmit_store.proofs.store.Store.place_of.Goals as goal

pub returns-in_err-front : goal.returns-in_err-front
returns-in_err-front c =
    let empty : c.args.self.now.packets ≡ [] = sym (ap (λ s. s.packets) c.self.view_is) ∙ nothing_stored c.self.inside.packets.items c.in_err-front.ensures in
    record { value = ap (λ (ps : List Stored). stored_with ps c.args.number) empty ∙ ap (stored_at c.args.self.now.packets) (sym c.from_residual.ensures) }

pub returns-then-newest-number : goal.returns-then-newest-number
returns-then-newest-number c =
    let packets = ap (λ s. s.packets) c.self.view_is in
    record {
      value = ap (λ (ps : List Stored). stored_with ps c.args.number) (sym packets)
          ∙ stored_above c.self.inside.packets.items c.in_ok-front.field-0.now c.args.number c.self.invariant.3 c.in_ok-front.ensures (omega (arith, c.number-newest.ensures.value, c.if-newest-number.true));
    }

pub returns : goal.returns
returns c =
    let packets = ap (λ s. s.packets) c.self.view_is in
    record {
      value = ap (λ (ps : List Stored). stored_with ps c.args.number) (sym packets)
          ∙ stored_below c.self.inside.packets.items c.in_ok-front.field-0.now c.args.number c.self.invariant.3 c.in_ok-front.ensures (omega (arith, c.number-newest.ensures.value, c.if-newest-number.false))
          ∙ ap (λ (n : ℕ). slice_get c.self.inside.packets.items (n - c.args.number)) (sym c.number-newest.ensures.value)
          ∙ ap (λ (ps : List Stored). slice_get ps (c.number-newest.result - c.args.number)) packets;
    }
