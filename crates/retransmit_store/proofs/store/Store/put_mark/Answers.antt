use Rattle.std.proofs.Common.{◌≡◌, ◌∙◌, List, sym, ap, subst, arith, None}
use Rattle.std.specs.Prelude.{slice_get}
use Rattle.std.proofs.lemmas.List.{length-set}
use Rattle.sender_rules.specs.Sendings.{AreFalling}
use Rattle.retransmit_store.specs.declared.store.Stored.{Stored}
use Rattle.retransmit_store.specs.State.{stored_with, marked_with, with_mark}
use Rattle.retransmit_store.proofs.StoreLemmas.{numbers_of, set_marked, falling_marked, is_found}
use Rattle.retransmit_store.proofs.store.Store.put_mark.Goals as goal

pub invariant_of-self : goal.invariant_of-self
invariant_of-self c =
    let packets = ap (λ s. s.packets) c.self.view_is in
    let items = c.self.inside.packets.items in
    let at_place : stored_with items c.args.number ≡ slice_get items c.in-Some.place = subst (λ (ps : List Stored). stored_with ps c.args.number ≡ slice_get ps c.in-Some.place) (sym packets) c.in-Some.ensures.value in
    let is = set_marked c.args.number c.args.at c.in-Some.place items c.in-Some-get_mut.stored.now c.self.invariant.3 at_place c.in-Some-get_mut.ensures.value in (
      c.self.invariant.0,
      c.self.invariant.1,
      omega (arith, c.self.invariant.2, length-set items c.in-Some.place (marked_with c.args.at c.in-Some-get_mut.stored.now)),
      subst (λ (ps : List Stored). AreFalling (numbers_of ps)) (sym is) (falling_marked c.args.number c.args.at items c.self.invariant.3),
    )

pub returns-in-Some-get_mut : goal.returns-in-Some-get_mut
returns-in-Some-get_mut c =
    let packets = ap (λ s. s.packets) c.self.view_is in
    let sizes = ap (λ s. s.size) c.self.view_is in
    let items = c.self.inside.packets.items in
    let at_place : stored_with items c.args.number ≡ slice_get items c.in-Some.place = subst (λ (ps : List Stored). stored_with ps c.args.number ≡ slice_get ps c.in-Some.place) (sym packets) c.in-Some.ensures.value in
    let is = set_marked c.args.number c.args.at c.in-Some.place items c.in-Some-get_mut.stored.now c.self.invariant.3 at_place c.in-Some-get_mut.ensures.value ∙ ap (with_mark c.args.number c.args.at) packets in
    record { value = λ i. record { size = sizes i; packets = is i } }

pub returns-in_default-get_mut : goal.returns-in_default-get_mut
returns-in_default-get_mut c =
    let packets = ap (λ s. s.packets) c.self.view_is in
    let none : None ≡ slice_get c.self.inside.packets.items c.in-Some.place = c.in_default-get_mut.ensures.value in
    absurd (is_found c.args.self.now.packets c.args.number c.requires.stored (c.in-Some.ensures.value ∙ ap (λ (ps : List Stored). slice_get ps c.in-Some.place) (sym packets) ∙ sym none))

pub returns-in_default : goal.returns-in_default
returns-in_default c = absurd (is_found c.args.self.now.packets c.args.number c.requires.stored c.in_default.ensures.value)
