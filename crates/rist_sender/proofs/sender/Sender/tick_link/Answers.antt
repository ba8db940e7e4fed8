use Rattle.std.proofs.Common.{refl, subst}
use Rattle.rist_wire.specs.declared.session.Session.{Session}
use Rattle.rist_sender.specs.History.{effective_time}
use Rattle.rist_sender.specs.Calls.{WritesInTurn, on_link, keepalive_due}
use Rattle.rist_sender.specs.Sender.{has_keepalives}
use Rattle.rist_sender.proofs.TurnLemmas.{does_then, does_weaker, writes_short}
use Rattle.rist_sender.proofs.sender.Sender.tick_link.Goals as goal

pub returns-in-Ok-clause-does : goal.returns-in-Ok-clause-does
returns-in-Ok-clause-does g c = λ from stands fresh.
    let d = c.in-Ok.ensures.does from stands fresh in
    let e = c.tick_keepalive.ensures.does d.to d.stands d.fact.ends.pair in
    does_then _ c.args.self.now c.tick_report.new.self c.tick_keepalive.new.self c.args.links.now c.tick_report.new.links c.tick_keepalive.new.links from _ _ _ c.tick_report.auto.links c.in-Ok.ensures.set d e
    (λ to fact. record {
      ticks = record {
        between = d.to;
        report = d.fact.writes;
        keepalive = subst (λ (s : Session). WritesInTurn (effective_time d.to.history) (on_link c.args.link (keepalive_due (has_keepalives s.profile) d.to.history c.args.link)) d.to to) c.in-Ok.ensures.set.session fact.writes;
      };
      ends = fact.ends;
    })

pub returns-in-Err-clause-does : goal.returns-in-Err-clause-does
returns-in-Err-clause-does g c = λ from stands fresh.
    let d = c.in-Err.ensures.does from stands fresh in
    does_weaker _ _ _ _ _ from _ _ d
    (λ to fact. record {
      ticks = record { between = to; report = fact.writes; keepalive = writes_short _ _ to (fact.ends.spent refl) fact.ends.pair };
      ends = fact.ends;
    })
