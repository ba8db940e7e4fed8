-- One call of the sender.
use Rattle.std.proofs.Common.{sym, ap}
use Rattle.rist_gateway.specs.Course.{Passed}
use Rattle.rist_gateway.proofs.MoveLemmas.{goes_call}
use Rattle.rist_gateway.proofs.look.feed.Goals as goal

pub returns-clause-work : goal.returns-clause-work
returns-clause-work g c = λ moments from far.
    goes_call _ c.args.sender.now c.feedback.new.self moments moments c.args.links.now c.feedback.new.links from _ _ c.feedback.auto.links far
    (c.feedback.ensures.work from.work far.sender)
    (λ w fact. record { feeds = fact; is = ap (λ (m : Passed). record from { work = w; passed = m }) (sym far.passed_is) })
