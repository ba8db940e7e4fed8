use Rattle.std.proofs.Common.{◌<◌, length, ap, sym, ◌∙◌, arith, rules}
use Rattle.std.proofs.lemmas.Bool.{eqb-true, eqb-false}
use Rattle.std.proofs.lemmas.List.{take_rest}
use Rattle.rtcp_compound.proofs.CompoundLemmas.{packets_none, packets_behind, given}
use Rattle.rtcp_compound.proofs.compound.PacketsIterator.next.Goals as goal

pub returns-then-is_empty-clause-steps : goal.returns-then-is_empty-clause-steps
returns-then-is_empty-clause-steps c =
    let none = sym c.self.view_is ∙ packets_none c.self.inside.rest.now (eqb-true _ _ (sym c.if-is_empty.ensures)) in
    (none, none)

pub invariant_of-self : goal.invariant_of-self
invariant_of-self c =
    let some : 0 < length c.self.inside.rest.now = omega (arith, eqb-false _ _ (sym c.if-is_empty.ensures)) in
    packets_behind c.self.inside.rest.now _ c.packet_len.result (take_rest c.self.inside.rest.now c.packet_len.result) c.packet_len.ensures.value some c.self.invariant

pub returns-clause-steps : goal.returns-clause-steps
returns-clause-steps c =
    let some : 0 < length c.self.inside.rest.now = omega (arith, eqb-false _ _ (sym c.if-is_empty.ensures)) in
    given c.self.inside.rest.now _ c.packet_len.result _ _ (take_rest c.self.inside.rest.now c.packet_len.result) c.packet_len.ensures.value some c.self.view_is c.packet_of-packet.ensures

pub returns-clause-goes : goal.returns-clause-goes
returns-clause-goes c =
    let shorter = ap length (returns-clause-steps c) in
    search (rules, shorter)
