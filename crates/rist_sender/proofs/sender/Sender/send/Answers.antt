use Rattle.std.proofs.Common.{ℕ, refl, subst}
use Rattle.rist_sender.specs.Calls.{Rules, called_at, SendsNext, IsAnswer}
use Rattle.rist_sender.proofs.TurnLemmas.{does_call}
use Rattle.rist_sender.proofs.sender.Sender.send.Goals as goal

pub returns-in-Ok-clause-work : goal.returns-in-Ok-clause-work
returns-in-Ok-clause-work g c = λ from stands.
    let begun = c.begin.ensures.state from stands in
    does_call _ c.args.self.now c.begin.new.self c.send_next.new.self c.args.links.now c.send_next.new.links from c.args.us _ _ c.begin.ensures.same c.begin.ensures.session
    (c.in-Ok.ensures.does (called_at c.args.us from) begun refl)
    (λ to after fact. record {
      writes = subst (λ (r : Rules). SendsNext r c.args.payload.now (called_at c.args.us from) to) c.begin.ensures.same fact.sends;
      answer = subst (λ (n : ℕ). IsAnswer n (λ done. Unit {0}) c.check_up.result to) c.send_next.auto.links (c.check_up.ensures.answer to after fact.short_is);
    })

pub returns-in-Err-clause-work : goal.returns-in-Err-clause-work
returns-in-Err-clause-work g c = λ from stands.
    let begun = c.begin.ensures.state from stands in
    does_call _ c.args.self.now c.begin.new.self c.send_next.new.self c.args.links.now c.send_next.new.links from c.args.us _ _ c.begin.ensures.same c.begin.ensures.session
    (c.in-Err.ensures.does (called_at c.args.us from) begun refl)
    (λ to after fact. record {
      writes = subst (λ (r : Rules). SendsNext r c.args.payload.now (called_at c.args.us from) to) c.begin.ensures.same fact.sends;
      answer = fact.short_is;
    })
