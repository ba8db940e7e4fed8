use Rattle.std.proofs.Common.{map, length, Ok, Err, refl, sym, ap, subst}
use Rattle.rist_sender.specs.Calls.{FeedsBack}
use Rattle.rist_sender.specs.Sender.{rules_of}
use Rattle.rist_send.specs.declared.progress.Progress.{Progress}
use Rattle.rist_send.specs.Inside.Moves.{with_links}
use Rattle.rist_send.proofs.MoveLemmas.{moves_call}
use Rattle.rist_send.proofs.reading.feed.Goals as goal

pub returns-in-Ok-clause-work : goal.returns-in-Ok-clause-work
returns-in-Ok-clause-work g c = λ settings from at.
    moves_call _ c.args.sender.now c.feedback.new.self c.args.progress.now (with_links from (map g.L.Link.reads c.args.links.now)) c.args.links.now c.feedback.new.links from from _ _ refl c.feedback.auto.links refl at
    (c.in-Ok.ensures.work from.work at.sender)
    (λ w fact. record {
      answer = Ok c.in-Ok.field-0;
      feeds = subst (λ (p : Progress). FeedsBack (rules_of c.args.sender.now) (length c.args.links.now) p.moment c.args.link c.args.compound.now (Ok c.in-Ok.field-0) from.work w) (sym at.progress) fact;
      answers = refl;
      is = refl;
    })

pub returns-in-Err-clause-work : goal.returns-in-Err-clause-work
returns-in-Err-clause-work g c = λ settings from at.
    moves_call _ c.args.sender.now c.feedback.new.self c.args.progress.now (with_links from (map g.L.Link.reads c.args.links.now)) c.args.links.now c.feedback.new.links from from _ _ refl c.feedback.auto.links refl at
    (c.in-Err.ensures.work from.work at.sender)
    (λ w fact. record {
      answer = Err c.in-Err.bad;
      feeds = subst (λ (p : Progress). FeedsBack (rules_of c.args.sender.now) (length c.args.links.now) p.moment c.args.link c.args.compound.now (Err c.in-Err.bad) from.work w) (sym at.progress) fact;
      answers = ap Err c.refusal.ensures.value;
      is = refl;
    })
