use Rattle.std.proofs.Common.{ℕ, length, refl, subst}
use Rattle.std.specs.List.{range_with_len}
use Rattle.rist_wire.specs.declared.session.Session.{Session}
use Rattle.rist_sender.specs.Calls.{called_at, TicksInTurn, IsAnswer}
use Rattle.rist_sender.specs.Sender.{has_keepalives}
use Rattle.rist_sender.proofs.TurnLemmas.{does_call}
use Rattle.rist_sender.proofs.sender.Sender.tick.Goals as goal

pub returns-in-Ok-clause-work : goal.returns-in-Ok-clause-work
returns-in-Ok-clause-work g c = λ from stands.
    let begun = c.begin.ensures.state from stands in
    does_call _ c.args.self.now c.begin.new.self c.tick_links.new.self c.args.links.now c.tick_links.new.links from c.args.us _ _ c.begin.ensures.same c.begin.ensures.session
    (c.in-Ok.ensures.does (called_at c.args.us from) begun refl)
    (λ to after fact. record {
      writes = subst (λ (s : Session). TicksInTurn (has_keepalives s.profile) c.args.us (range_with_len 0 (length c.args.links.now)) (called_at c.args.us from) to) c.begin.ensures.session fact.ticks;
      answer = subst (λ (n : ℕ). IsAnswer n (λ done. Unit {0}) c.check_up.result to) c.tick_links.auto.links (c.check_up.ensures.answer to after fact.ends.pair);
    })

pub returns-in-Err-clause-work : goal.returns-in-Err-clause-work
returns-in-Err-clause-work g c = λ from stands.
    let begun = c.begin.ensures.state from stands in
    does_call _ c.args.self.now c.begin.new.self c.tick_links.new.self c.args.links.now c.tick_links.new.links from c.args.us _ _ c.begin.ensures.same c.begin.ensures.session
    (c.in-Err.ensures.does (called_at c.args.us from) begun refl)
    (λ to after fact. record {
      writes = subst (λ (s : Session). TicksInTurn (has_keepalives s.profile) c.args.us (range_with_len 0 (length c.args.links.now)) (called_at c.args.us from) to) c.begin.ensures.session fact.ticks;
      answer = fact.ends.pair;
    })
