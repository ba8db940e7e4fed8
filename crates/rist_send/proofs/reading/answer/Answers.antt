use Rattle.std.proofs.Common.{◌∙◌, List, map, length, Option, Result, Ok, refl, sym, ap, subst}
use Rattle.rtcp_compound.specs.Compound.{Content}
use Rattle.rist_wire.specs.declared.session.Session.{Session}
use Rattle.rist_wire.specs.declared.bad.WireBad.{WireBad}
use Rattle.rist_wire.specs.declared.item.Item.{Item}
use Rattle.rist_wire.specs.Item.{item_of}
use Rattle.rist_send.specs.Run.{setup_of}
use Rattle.rist_sender.specs.Incoming.{compound_of}
use Rattle.rist_send.specs.Turns.{AnswersIf}
use Rattle.rist_send.specs.Inside.Moves.{with_links}
use Rattle.rist_send.proofs.MoveLemmas.{moves_none, moves_as}
use Rattle.rist_send.proofs.reading.answer.Goals as goal

abbrev taken : Item → Result Item WireBad
taken item = Ok item

pub returns-in-Ok-Control-clause-work : goal.returns-in-Ok-Control-clause-work
returns-in-Ok-Control-clause-work g c = λ settings from at.
    let setup = setup_of settings c.args.sender.now (length c.args.links.now) in
    let item = ap taken (sym c.in-Ok-Control.field-0-is) ∙ c.in-Ok-Control.ensures.value ∙ ap (λ (s : Session). item_of s c.args.channel c.args.octets.now) c.requires.session in
    moves_as _ c.args.sender.now c.feed.new.sender c.args.progress.now _ _ c.args.links.now c.feed.new.links from _ _ (c.feed.ensures.work settings from at) (λ to is. is)
    (λ to fact. subst (λ (m : Option (List Content)). AnswersIf setup c.args.link m c.feed.result from to) (ap compound_of item) fact)

pub returns-in-Ok-Media-clause-work : goal.returns-in-Ok-Media-clause-work
returns-in-Ok-Media-clause-work g c = λ settings from at.
    let setup = setup_of settings c.args.sender.now (length c.args.links.now) in
    let item = ap taken (sym c.in-Ok-Media.field-0-is) ∙ c.in-Ok-Media.ensures.value ∙ ap (λ (s : Session). item_of s c.args.channel c.args.octets.now) c.requires.session in
    moves_none _ c.args.sender.now c.args.progress.now (with_links from (map g.L.Link.reads c.args.links.now)) c.args.links.now from _ from refl at
    (subst (λ (m : Option (List Content)). AnswersIf setup c.args.link m (Ok tt) from from) (ap compound_of item) (refl, refl))

pub returns-in-Ok-Keepalive-clause-work : goal.returns-in-Ok-Keepalive-clause-work
returns-in-Ok-Keepalive-clause-work g c = λ settings from at.
    let setup = setup_of settings c.args.sender.now (length c.args.links.now) in
    let item = ap taken (sym c.in-Ok-Keepalive.field-0-is) ∙ c.in-Ok-Keepalive.ensures.value ∙ ap (λ (s : Session). item_of s c.args.channel c.args.octets.now) c.requires.session in
    moves_none _ c.args.sender.now c.args.progress.now (with_links from (map g.L.Link.reads c.args.links.now)) c.args.links.now from _ from refl at
    (subst (λ (m : Option (List Content)). AnswersIf setup c.args.link m (Ok tt) from from) (ap compound_of item) (refl, refl))

pub returns-in-Err-clause-work : goal.returns-in-Err-clause-work
returns-in-Err-clause-work g c = λ settings from at.
    let setup = setup_of settings c.args.sender.now (length c.args.links.now) in
    let item = c.in-Err.ensures.value ∙ ap (λ (s : Session). item_of s c.args.channel c.args.octets.now) c.requires.session in
    moves_none _ c.args.sender.now c.args.progress.now (with_links from (map g.L.Link.reads c.args.links.now)) c.args.links.now from _ from refl at
    (subst (λ (m : Option (List Content)). AnswersIf setup c.args.link m (Ok tt) from from) (ap compound_of item) (refl, refl))
