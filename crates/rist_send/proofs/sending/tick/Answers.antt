use Rattle.std.proofs.Common.{map, length, Ok, Err, refl, sym, ap, subst}
use Rattle.rist_sender.specs.Calls.{Ticks}
use Rattle.rist_sender.specs.Sender.{rules_of}
use Rattle.rist_send.specs.declared.progress.Progress.{Progress}
use Rattle.rist_send.specs.Inside.Moves.{with_links}
use Rattle.rist_send.proofs.MoveLemmas.{moves_call}
use Rattle.rist_send.proofs.sending.tick.Goals as goal

pub returns-in-Ok-clause-work : goal.returns-in-Ok-clause-work
returns-in-Ok-clause-work g c = λ settings from at.
    moves_call _ c.args.sender.now c.tick.new.self c.args.progress.now (with_links from (map g.L.Link.reads c.args.links.now)) c.args.links.now c.tick.new.links from from _ _ refl c.tick.auto.links refl at
    (c.in-Ok.ensures.work from.work at.sender)
    (λ w fact. record {
      answer = Ok tt;
      ticks = subst (λ (p : Progress). Ticks (rules_of c.args.sender.now) (length c.args.links.now) p.moment (Ok tt) from.work w) (sym at.progress) fact;
      answers = refl;
      is = refl;
    })

pub returns-in-Err-clause-work : goal.returns-in-Err-clause-work
returns-in-Err-clause-work g c = λ settings from at.
    moves_call _ c.args.sender.now c.tick.new.self c.args.progress.now (with_links from (map g.L.Link.reads c.args.links.now)) c.args.links.now c.tick.new.links from from _ _ refl c.tick.auto.links refl at
    (c.in-Err.ensures.work from.work at.sender)
    (λ w fact. record {
      answer = Err c.in-Err.bad;
      ticks = subst (λ (p : Progress). Ticks (rules_of c.args.sender.now) (length c.args.links.now) p.moment (Err c.in-Err.bad) from.work w) (sym at.progress) fact;
      answers = ap Err c.refusal.ensures.value;
      is = refl;
    })
