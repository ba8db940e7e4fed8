-- What came is a compound, or anything else.
use Rattle.std.proofs.Common.{◌∙◌, List, length, Option, Result, Ok, sym, ap, subst}
use Rattle.rtcp_compound.specs.Compound.{Content}
use Rattle.rist_wire.specs.declared.session.Session.{Session}
use Rattle.rist_wire.specs.declared.bad.WireBad.{WireBad}
use Rattle.rist_wire.specs.declared.item.Item.{Item}
use Rattle.rist_wire.specs.Item.{item_of}
use Rattle.rist_sender.specs.Incoming.{compound_of}
use Rattle.rist_gateway.specs.Course.{AnswersAndTicks}
use Rattle.rist_gateway.specs.Inside.Moves.{setup_with}
use Rattle.rist_gateway.proofs.MoveLemmas.{goes_as}
use Rattle.rist_gateway.proofs.look.answer_and_tick.Goals as goal

abbrev taken : Item → Result Item WireBad
taken item = Ok item

pub returns-in-Ok-Control-clause-work : goal.returns-in-Ok-Control-clause-work
returns-in-Ok-Control-clause-work g c = λ moments from far.
    let setup = setup_with c.args.sender.now (length c.args.links.now) in
    let item = ap taken (sym c.in-Ok-Control.field-0-is) ∙ c.in-Ok-Control.ensures.value ∙ ap (λ (s : Session). item_of s c.args.channel c.args.octets.now) c.requires.session in
    goes_as _ c.args.sender.now c.feed_and_tick.new.sender moments c.args.links.now c.feed_and_tick.new.links from _ _ (c.feed_and_tick.ensures.work moments from far)
    (λ to fact. subst (λ (m : Option (List Content)). AnswersAndTicks setup c.args.us c.args.link m c.feed_and_tick.result from to) (ap compound_of item) fact)

pub returns-in-Ok-Media-clause-work : goal.returns-in-Ok-Media-clause-work
returns-in-Ok-Media-clause-work g c = λ moments from far.
    let setup = setup_with c.args.sender.now (length c.args.links.now) in
    let item = ap taken (sym c.in-Ok-Media.field-0-is) ∙ c.in-Ok-Media.ensures.value ∙ ap (λ (s : Session). item_of s c.args.channel c.args.octets.now) c.requires.session in
    goes_as _ c.args.sender.now c.tick.new.sender moments c.args.links.now c.tick.new.links from _ _ (c.tick.ensures.work moments from far)
    (λ to fact. subst (λ (m : Option (List Content)). AnswersAndTicks setup c.args.us c.args.link m c.tick.result from to) (ap compound_of item) fact)

pub returns-in-Ok-Keepalive-clause-work : goal.returns-in-Ok-Keepalive-clause-work
returns-in-Ok-Keepalive-clause-work g c = λ moments from far.
    let setup = setup_with c.args.sender.now (length c.args.links.now) in
    let item = ap taken (sym c.in-Ok-Keepalive.field-0-is) ∙ c.in-Ok-Keepalive.ensures.value ∙ ap (λ (s : Session). item_of s c.args.channel c.args.octets.now) c.requires.session in
    goes_as _ c.args.sender.now c.tick-in-Ok-Keepalive.new.sender moments c.args.links.now c.tick-in-Ok-Keepalive.new.links from _ _ (c.tick-in-Ok-Keepalive.ensures.work moments from far)
    (λ to fact. subst (λ (m : Option (List Content)). AnswersAndTicks setup c.args.us c.args.link m c.tick-in-Ok-Keepalive.result from to) (ap compound_of item) fact)

pub returns-in-Err-clause-work : goal.returns-in-Err-clause-work
returns-in-Err-clause-work g c = λ moments from far.
    let setup = setup_with c.args.sender.now (length c.args.links.now) in
    let item = c.in-Err.ensures.value ∙ ap (λ (s : Session). item_of s c.args.channel c.args.octets.now) c.requires.session in
    goes_as _ c.args.sender.now c.tick-in-Err.new.sender moments c.args.links.now c.tick-in-Err.new.links from _ _ (c.tick-in-Err.ensures.work moments from far)
    (λ to fact. subst (λ (m : Option (List Content)). AnswersAndTicks setup c.args.us c.args.link m c.tick-in-Err.result from to) (ap compound_of item) fact)
