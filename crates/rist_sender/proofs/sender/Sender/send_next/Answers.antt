use Rattle.std.proofs.Common.{◌≡◌, ◌∙◌, ℕ, ◌+◌, ◌<◌, ◌≤◌, ◌^◌, Bool, true, false, length, refl, sym, ap, subst, arith}
use Rattle.rist_sender.specs.Sender.{SenderState, IsSenderAfter, rules_of}
use Rattle.rist_sender.specs.Calls.{without_pair, after_sent, packet_for}
use Rattle.rist_sender.specs.History.{packet_count, effective_time, sendings_of}
use Rattle.rist_wire.specs.Writing.{is_spent, next_pair}
use Rattle.rist_wire.specs.declared.session.Session.{Session}
use Rattle.retransmit_store.specs.State.{IsStoreAfter}
use Rattle.rist_sender.specs.Messages.{Original, message_channel, message_datagram}
use Rattle.rist_sender.specs.Inside.Puts.{IsPacketIn}
use Rattle.rist_sender.proofs.SendLemmas.{high_ended, spent_ended, not_ended, sends_one, does_sent, then_kept}
use Rattle.rist_sender.proofs.EventLemmas.{short_after, sent_after}
use Rattle.rist_sender.proofs.GivenLemmas.{given_none}
use Rattle.rist_sender.proofs.sender.Sender.send_next.Goals as goal

pub returns-then-number-ge-NUMBERS-clause-does : goal.returns-then-number-ge-NUMBERS-clause-does
returns-then-number-ge-NUMBERS-clause-does g c = λ from stands fresh.
    let old = c.args.self.now in
    let first = ap (λ (s : SenderState). s.first) c.self.view_is in
    let count = ap (λ (s : SenderState). s.count) c.self.view_is in
    let high : 2 ^ 62 ≤ old.first + packet_count from.history = omega (arith, first, count, stands.count, c.if-number-ge-NUMBERS.true) in
    record {
      to = without_pair from;
      fact = record { sends = high_ended (rules_of old) c.args.payload.now from high; short_is = refl };
      stands = short_after old from stands;
      given = given_none _ old.flow old.session from.history c.args.links.now;
    }

pub returns-in-Err-clause-does : goal.returns-in-Err-clause-does
returns-in-Err-clause-does g c = λ from stands fresh.
    let old = c.args.self.now in
    let spent : is_spent from.sealer ≡ true = ap is_spent (sym stands.sealer) ∙ sym c.in-Err.ensures.spent in
    record {
      to = without_pair from;
      fact = record { sends = spent_ended (rules_of old) c.args.payload.now from spent; short_is = refl };
      stands = subst (λ (s : SenderState). IsSenderAfter s (without_pair from)) (sym c.in-Err.ensures.same) (short_after old from stands);
      given = given_none _ old.flow old.session from.history c.args.links.now;
    }

pub returns-clause-does : goal.returns-clause-does
returns-clause-does g c = λ from stands fresh.
    let old = c.args.self.now in
    let sent = c.sent_as-sent.result in
    let kept = c.keep.new.self in
    let first = ap (λ (s : SenderState). s.first) c.self.view_is in
    let count = ap (λ (s : SenderState). s.count) c.self.view_is in
    let left : is_spent from.sealer ≡ false = ap is_spent (sym stands.sealer) ∙ sym c.in-Ok.ensures.spent in
    let low : old.first + packet_count from.history < 2 ^ 62 = omega (arith, first, count, stands.count, c.if-number-ge-NUMBERS.false) in
    let state = then_kept old c.seal_first.new.self kept (length sent.payload) c.in-Ok.ensures.state c.keep.ensures.state in
    let stored = c.keep.ensures.store (sendings_of from.history)
    (subst (λ (s : SenderState). IsStoreAfter s.store (sendings_of from.history)) (sym c.in-Ok.ensures.state) stands.store) in
    let stands1 = subst (λ (s : SenderState). IsSenderAfter s (after_sent sent from)) (sym state) (sent_after old from sent kept.store stands stored) in
    let flow : kept.flow ≡ old.flow = ap (λ (s : SenderState). s.flow) state in
    let session : kept.session ≡ old.session = ap (λ (s : SenderState). s.session) state in
    let spells : IsPacketIn kept (next_pair old.sealer) sent _ _ = record {
      channel = c.in-Ok.ensures.datagram.channel ∙ ap (λ (s : Session). message_channel s (Original sent)) (sym session);
      datagram = c.in-Ok.ensures.datagram.octets ∙ ap (λ (f : ℕ). message_datagram f old.session (next_pair old.sealer) (Original sent)) (sym flow)
          ∙ ap (λ (s : Session). message_datagram kept.flow s (next_pair old.sealer) (Original sent)) (sym session);
    } in
    let number : c.from.result + c.self.inside.count ≡ old.first + packet_count from.history = omega (arith, first, count, stands.count) in
    let nulls : c.self.inside.nulls ≡ old.session.nulls = c.self.invariant.deletes ∙ ap (λ (s : SenderState). s.session.nulls) c.self.view_is in
    let time : c.self.inside.time ≡ effective_time from.history = ap (λ (s : SenderState). s.time) c.self.view_is ∙ stands.time in
    let packet : sent ≡ packet_for old.session.nulls (old.first + packet_count from.history) (effective_time from.history) c.args.payload.now =
    c.sent_as-sent.ensures.value ∙ ap (λ (b : Bool). packet_for b (c.from.result + c.self.inside.count) c.self.inside.time c.args.payload.now) nulls
    ∙ ap (λ (n : ℕ). packet_for old.session.nulls n c.self.inside.time c.args.payload.now) number
    ∙ ap (λ (t : ℕ). packet_for old.session.nulls (old.first + packet_count from.history) t c.args.payload.now) time in
    does_sent _ old kept c.spread.new.self c.args.links.now c.spread.new.links from sent _ _ flow session
    (c.spread.ensures.does (after_sent sent from) sent (next_pair old.sealer) stands1 spells)
    (λ to fact. record {
      sends = sends_one (rules_of old) c.args.payload.now from to sent (next_pair old.sealer) kept.time c.self.inside.count kept.bonding
          (not_ended (old.first + packet_count from.history) from low left) packet (ap next_pair stands.sealer)
          (ap (λ (s : SenderState). s.time) state ∙ stands.time) (count ∙ stands.count) (ap (λ (s : SenderState). s.bonding) state) fact.spreads;
      short_is = fact.short ∙ fresh;
    })
