use Rattle.std.proofs.Common.{◌≡◌, ◌∙◌, ℕ, ◌<◌, ◌∷◌, Option, refl, sym, ap, subst, arith}
use Rattle.psk_seal.specs.declared.sealer.Pair.{Pair}
use Rattle.rist_wire.specs.Writing.{next_pair, is_spent}
use Rattle.rist_wire.specs.Datagrams.{datagram_of}
use Rattle.rist_wire.specs.declared.item.Kind.TheVariants as kinds
use Rattle.sender_rules.specs.Sendings.{Again}
use Rattle.retransmit_store.specs.State.{IsStoreAfter}
use Rattle.rist_sender.specs.Messages.{Retransmission, message_datagram}
use Rattle.rist_sender.specs.History.{sendings_of}
use Rattle.rist_sender.specs.Calls.{after_write}
use Rattle.rist_sender.specs.Sender.{SenderState, IsSenderAfter}
use Rattle.rist_sender.proofs.EventLemmas.{again_after}
use Rattle.rist_sender.proofs.PutLemmas.{put_short, put_made, sealed_written, then_store}
use Rattle.rist_sender.proofs.sender.Sender.put_again.Goals as goal

pub returns-in-Err-clause-does : goal.returns-in-Err-clause-does
returns-in-Err-clause-does g c = λ from packet stands fresh held numbered.
    let few : c.args.link < 16 = omega arith in
    put_short _ c.args.self.now c.seal_again.new.self c.args.links.now c.args.links.now from c.args.self.now.time c.args.link (Retransmission packet)
    stands (sym (stands.down c.args.link few) ∙ c.requires.up) (ap is_spent (sym stands.sealer) ∙ sym c.in-Err.ensures.spent) c.in-Err.ensures.same refl

pub returns-clause-does : goal.returns-clause-does
returns-clause-does g c = λ from packet stands fresh held numbered.
    let old = c.args.self.now in
    let link = c.args.link in
    let a = c.write-answer.result in
    let few : link < 16 = omega arith in
    let up = sym (stands.down link few) ∙ c.requires.up in
    let left = ap is_spent (sym stands.sealer) ∙ sym c.in-Ok.ensures.spent in
    let done = sealed_written old c.seal_again.new.self c.write-answer.new.self link a c.in-Ok.ensures.state c.write-answer.ensures.state in
    let state = then_store old c.write-answer.new.self c.mark.new.self link a done c.mark.ensures.state in
    let stored : IsStoreAfter c.write-answer.new.self.store (sendings_of from.history) = subst (λ (s : SenderState). IsStoreAfter s.store (sendings_of from.history)) (sym done) stands.store in
    let kept : IsStoreAfter c.mark.new.self.store (Again packet.number old.time ∷ sendings_of from.history) =
    subst (λ (n : ℕ). IsStoreAfter c.mark.new.self.store (Again n old.time ∷ sendings_of from.history)) (sym numbered)
    (subst (λ (s : SenderState). IsStoreAfter c.mark.new.self.store (Again c.args.number s.time ∷ sendings_of from.history)) done (c.mark.ensures.store (sendings_of from.history) stored)) in
    let pair : next_pair old.sealer ≡ next_pair from.sealer = ap next_pair stands.sealer in
    let spelled = (c.in-Ok.ensures.datagram packet held).octets ∙ ap (datagram_of old.session (next_pair old.sealer) kinds.Media) (refl)
    ∙ ap (λ (p : Option Pair). message_datagram old.flow old.session p (Retransmission packet)) pair in
    put_made _ old c.mark.new.self c.args.links.now c.write-answer.new.links from old.time link (Retransmission packet) a _ _ up left fresh
    (subst (λ (s : SenderState). IsSenderAfter s (after_write old.time (record { link = link; message = (Retransmission packet) }) a from)) (sym state)
    (again_after old from link packet a c.mark.new.self.store stands few kept))
    c.write-answer.ensures.writes (c.in-Ok.ensures.datagram packet held).channel spelled
