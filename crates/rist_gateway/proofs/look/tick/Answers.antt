-- One call of the sender.
use Rattle.std.proofs.Common.{sym, ap}
use Rattle.rist_gateway.specs.Course.{Passed}
use Rattle.rist_gateway.proofs.MoveLemmas.{goes_call}
use Rattle.rist_gateway.proofs.look.tick.Goals as goal

pub returns-clause-work : goal.returns-clause-work
returns-clause-work g c = λ moments from far.
    goes_call _ c.args.sender.now c.tick.new.self moments moments c.args.links.now c.tick.new.links from _ _ c.tick.auto.links far
    (c.tick.ensures.work from.work far.sender)
    (λ w fact. record { ticks = fact; is = ap (λ (m : Passed). record from { work = w; passed = m }) (sym far.passed_is) })
