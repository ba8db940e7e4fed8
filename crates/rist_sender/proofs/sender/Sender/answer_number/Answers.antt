use Rattle.std.proofs.Common.{◌≡◌, ◌∙◌, ℕ, false, true, Some, sym, ap, subst}
use Rattle.sender_rules.specs.Sendings.{last_sent_again}
use Rattle.link_channels.specs.Intervals.{has_passed_since}
use Rattle.sender_rules.specs.Stored.{stored_packets, packet_with, packet_for}
use Rattle.retransmit_store.specs.State.{packets_in}
use Rattle.retransmit_store.proofs.HistoryLemmas.{stored_are}
use Rattle.rist_sender.specs.History.{sendings_of}
use Rattle.rist_sender.specs.Messages.{Retransmission}
use Rattle.rist_sender.specs.declared.answer.Answer.TheVariants.{Took}
use Rattle.rist_sender.specs.Inside.Puts.{PutsWith}
use Rattle.rist_sender.proofs.KeptLemmas.{again_found, word_with}
use Rattle.rist_sender.proofs.TurnLemmas.{does_weaker}
use Rattle.rist_sender.proofs.sender.Sender.answer_number.Goals as goal

pub returns-in-Ok-clause-does : goal.returns-in-Ok-clause-does
returns-in-Ok-clause-does g c = λ from stands fresh.
    let old = c.args.self.now in
    let h = sendings_of from.history in
    let stored = stored_packets old.store.size h in
    let p = again_found old.hold old.time c.in-Some.number h (packet_for stored c.args.asked.width c.args.asked.word) (c.in-Some.ensures.value h stands.store) in
    let held : packet_with (packets_in old.store) c.in-Some.number ≡ Some p.0 =
    ap (λ ps. packet_with ps c.in-Some.number) (stored_are old.store h stands.store) ∙ ap (packet_with stored) (sym p.3) ∙ word_with stored c.args.asked.width c.args.asked.word p.0 p.1 in
    does_weaker _ _ _ _ _ from _ _ (c.in-Ok.ensures.does from p.0 stands fresh held p.3)
    (λ to fact. record {
      packet = p.0;
      found = p.1;
      passed = subst (λ (t : ℕ). has_passed_since old.hold t (last_sent_again h p.0.number) ≡ true) stands.time p.2;
      puts = subst (λ (t : ℕ). PutsWith t c.args.link (Retransmission p.0) c.in-Ok.answer false from to) stands.time fact;
    })

pub returns-in-Err-clause-does : goal.returns-in-Err-clause-does
returns-in-Err-clause-does g c = λ from stands fresh.
    let old = c.args.self.now in
    let h = sendings_of from.history in
    let stored = stored_packets old.store.size h in
    let p = again_found old.hold old.time c.in-Some.number h (packet_for stored c.args.asked.width c.args.asked.word) (c.in-Some.ensures.value h stands.store) in
    let held : packet_with (packets_in old.store) c.in-Some.number ≡ Some p.0 =
    ap (λ ps. packet_with ps c.in-Some.number) (stored_are old.store h stands.store) ∙ ap (packet_with stored) (sym p.3) ∙ word_with stored c.args.asked.width c.args.asked.word p.0 p.1 in
    does_weaker _ _ _ _ _ from _ _ (c.in-Err.ensures.does from p.0 stands fresh held p.3)
    (λ to fact. record {
      packet = p.0;
      found = p.1;
      passed = subst (λ (t : ℕ). has_passed_since old.hold t (last_sent_again h p.0.number) ≡ true) stands.time p.2;
      puts = subst (λ (t : ℕ). PutsWith t c.args.link (Retransmission p.0) Took true from to) stands.time fact;
    })
