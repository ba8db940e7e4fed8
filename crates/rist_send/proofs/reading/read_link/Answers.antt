use Rattle.std.proofs.Common.{Bool, map, length, Ok, refl, subst}
use Rattle.rist_sender.specs.Calls.{IfElse}
use Rattle.rist_send.specs.Run.{setup_of}
use Rattle.rist_send.specs.Turns.{ReadsOn, Stays}
use Rattle.rist_send.specs.Inside.Moves.{with_links}
use Rattle.rist_send.proofs.MoveLemmas.{moves_none, moves_as}
use Rattle.rist_send.proofs.reading.read_link.Goals as goal

pub returns-then-is_read-clause-work : goal.returns-then-is_read-clause-work
returns-then-is_read-clause-work g c = λ settings from at.
    let setup = setup_of settings c.args.sender.now (length c.args.links.now) in
    let yes = c.if-is_read.ensures.value from at.sender at.progress in
    moves_as _ c.args.sender.now c.read_on.new.sender c.read_on.new.progress _ _ c.args.links.now c.read_on.new.links from _ _ (c.read_on.ensures.work settings from at) (λ to is. is)
    (λ to fact. subst (λ (b : Bool). IfElse b (ReadsOn setup c.args.link c.read_on.result from to) (Stays c.read_on.result from to)) yes fact)

pub returns-else-is_read-clause-work : goal.returns-else-is_read-clause-work
returns-else-is_read-clause-work g c = λ settings from at.
    let setup = setup_of settings c.args.sender.now (length c.args.links.now) in
    let no = c.if-is_read.ensures.value from at.sender at.progress in
    moves_none _ c.args.sender.now c.args.progress.now (with_links from (map g.L.Link.reads c.args.links.now)) c.args.links.now from _ from refl at
    (subst (λ (b : Bool). IfElse b (ReadsOn setup c.args.link (Ok tt) from from) (Stays (Ok tt) from from)) no (refl, refl))
