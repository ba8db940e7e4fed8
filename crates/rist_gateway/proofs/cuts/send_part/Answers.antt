-- One moment, and one payload.
use Rattle.std.proofs.Common.{◌∙◌, Ok, Err, refl, sym, ap, subst}
use Rattle.outside_net.specs.Streams.{IsFirst}
use Rattle.rist_gateway.specs.Course.{Passed, passed_after}
use Rattle.rist_gateway.specs.Onward.{passed_of}
use Rattle.rist_gateway.proofs.MoveLemmas.{goes_call, passed_equal}
use Rattle.rist_gateway.proofs.cuts.send_part.Goals as goal

pub returns-in-Ok-clause-work : goal.returns-in-Ok-clause-work
returns-in-Ok-clause-work g c = λ from far.
    let was = passed_of (g.C.Clock.moments c.args.clock.now) c.args.handed.now in
    let is = passed_of (g.C.Clock.moments c.now-us.new.self) c.add.new.self in
    let passed = passed_equal c.now-us.ensures.moments c.add.ensures.value in
    goes_call _ c.args.sender.now c.send.new.self was is c.args.links.now c.send.new.links from _ _ c.send.auto.links far
    (c.in-Ok.ensures.work from.work far.sender)
    (λ w fact. record {
      moment = c.now-us.result;
      first = subst (λ (m : Passed). IsFirst m.moments c.now-us.result) (sym far.passed_is) c.now-us.ensures.value;
      sends = fact;
      is = ap (λ (m : Passed). record from { work = w; passed = m }) (passed ∙ ap (λ (m : Passed). passed_after m c.args.part.now (Ok tt)) (sym far.passed_is));
    })

pub returns-in-Err-clause-work : goal.returns-in-Err-clause-work
returns-in-Err-clause-work g c = λ from far.
    let was = passed_of (g.C.Clock.moments c.args.clock.now) c.args.handed.now in
    let is = passed_of (g.C.Clock.moments c.now-us.new.self) c.args.handed.now in
    let passed = passed_equal c.now-us.ensures.moments refl in
    goes_call _ c.args.sender.now c.send.new.self was is c.args.links.now c.send.new.links from _ _ c.send.auto.links far
    (c.in-Err.ensures.work from.work far.sender)
    (λ w fact. record {
      moment = c.now-us.result;
      first = subst (λ (m : Passed). IsFirst m.moments c.now-us.result) (sym far.passed_is) c.now-us.ensures.value;
      sends = fact;
      is = ap (λ (m : Passed). record from { work = w; passed = m }) (passed ∙ ap (λ (m : Passed). passed_after m c.args.part.now (Err c.in-Err.bad)) (sym far.passed_is));
    })
