use Rattle.std.proofs.Common.{◌≡◌, ◌∙◌, ◌+◌, ◌<◌, ◌≤◌, None, Some, Option, ℕ, sym, subst, arith}
use Rattle.std.specs.Prelude.{IsSome}
use Rattle.sender_rules.specs.Stored.{stored_packets, packet_with, packet_for}
use Rattle.retransmit_store.specs.State.{IsStoreAfter, packets_in}
use Rattle.rist_sender.specs.Sender.{SenderState}
use Rattle.rist_sender.specs.Inside.Numbers.{number_again}
use Rattle.rist_sender.proofs.KeptLemmas.{found_stored, again_is, not_passed, passed}
use Rattle.rist_sender.proofs.sender.Sender.number_again.Goals as goal

pub returns-in-Some-clause-value : goal.returns-in-Some-clause-value
returns-in-Some-clause-value c = λ history after.
    let s = c.self.inside in
    let soon : s.time < c.in-Some.at + s.hold = omega arith in
    let stood = subst (λ (s : SenderState). IsStoreAfter s.store history) (sym c.self.view_is) after in
    subst (λ (s : SenderState). ◌≡◌ {A = Option ℕ} None (number_again s.hold s.time history (packet_for (stored_packets s.store.size history) c.args.asked.width c.args.asked.word))) c.self.view_is
    (sym (again_is s.hold s.time c.in_ok-number.number history (stored_packets s.store.size history) c.args.asked.width c.args.asked.word (Some c.in-Some.at)
    (c.in_ok-number.ensures.history history stood) (c.in-Some.ensures.history history stood) ∙ not_passed s.hold s.time c.in-Some.at c.in_ok-number.number soon))

pub returns-in_default-clause-value : goal.returns-in_default-clause-value
returns-in_default-clause-value c = λ history after.
    let s = c.self.inside in
    let late : c.in-Some.at + s.hold ≤ s.time = omega (arith, c.self.invariant.within) in
    let stood = subst (λ (s : SenderState). IsStoreAfter s.store history) (sym c.self.view_is) after in
    subst (λ (s : SenderState). ◌≡◌ {A = Option ℕ} (Some c.in_ok-number.number) (number_again s.hold s.time history (packet_for (stored_packets s.store.size history) c.args.asked.width c.args.asked.word))) c.self.view_is
    (sym (again_is s.hold s.time c.in_ok-number.number history (stored_packets s.store.size history) c.args.asked.width c.args.asked.word (Some c.in-Some.at)
    (c.in_ok-number.ensures.history history stood) (c.in-Some.ensures.history history stood) ∙ passed s.hold s.time c.in-Some.at c.in_ok-number.number late))

pub returns-in_default-2-clause-value : goal.returns-in_default-2-clause-value
returns-in_default-2-clause-value c = λ history after.
    let s = c.self.inside in
    let stood = subst (λ (s : SenderState). IsStoreAfter s.store history) (sym c.self.view_is) after in
    subst (λ (s : SenderState). ◌≡◌ {A = Option ℕ} (Some c.in_ok-number.number) (number_again s.hold s.time history (packet_for (stored_packets s.store.size history) c.args.asked.width c.args.asked.word))) c.self.view_is
    (sym (again_is s.hold s.time c.in_ok-number.number history (stored_packets s.store.size history) c.args.asked.width c.args.asked.word None
    (c.in_ok-number.ensures.history history stood) (c.in_default.ensures.history history stood)))

pub returns-in_default-clause-stored : goal.returns-in_default-clause-stored
returns-in_default-clause-stored c =
    subst (λ (s : SenderState). IsSome (packet_with (packets_in s.store) c.in_ok-number.number)) c.self.view_is
    (found_stored (packets_in c.self.inside.store) c.args.asked.width c.args.asked.word c.in_ok-number.number c.in_ok-number.ensures.value)

pub returns-in_default-2-clause-stored : goal.returns-in_default-2-clause-stored
returns-in_default-2-clause-stored c =
    subst (λ (s : SenderState). IsSome (packet_with (packets_in s.store) c.in_ok-number.number)) c.self.view_is
    (found_stored (packets_in c.self.inside.store) c.args.asked.width c.args.asked.word c.in_ok-number.number c.in_ok-number.ensures.value)
