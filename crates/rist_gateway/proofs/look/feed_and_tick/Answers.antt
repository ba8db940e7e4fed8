-- The answer, and then the tick.
use Rattle.std.proofs.Common.{length, Ok, Err, refl, subst}
use Rattle.rist_gateway.specs.Course.{Setup, TicksOnce}
use Rattle.rist_gateway.proofs.MoveLemmas.{goes_then, goes_as, setup_same}
use Rattle.rist_gateway.proofs.look.feed_and_tick.Goals as goal

pub returns-in-Ok-clause-work : goal.returns-in-Ok-clause-work
returns-in-Ok-clause-work g c = λ moments from far.
    let d = c.in-Ok.ensures.work moments from far in
    goes_then _ c.args.sender.now c.feed.new.sender c.tick.new.sender moments moments c.args.links.now c.feed.new.links c.tick.new.links from _ _ _ c.feed.auto.links c.in-Ok.ensures.set d
    (c.tick.ensures.work moments d.to d.stands)
    (λ to fact. (Ok c.in-Ok.field-0, d.to, d.fact, subst (λ (s : Setup). TicksOnce s c.args.us c.tick.result d.to to) (setup_same c.args.sender.now c.feed.new.sender (length c.args.links.now) (length c.feed.new.links) c.in-Ok.ensures.set c.feed.auto.links) fact))

pub returns-in-Err-clause-work : goal.returns-in-Err-clause-work
returns-in-Err-clause-work g c = λ moments from far.
    goes_as _ c.args.sender.now c.feed.new.sender moments c.args.links.now c.feed.new.links from _ _ (c.in-Err.ensures.work moments from far)
    (λ to fact. (Err c.in-Err.bad, to, fact, (refl, refl)))
