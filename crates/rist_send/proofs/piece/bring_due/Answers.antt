use Rattle.std.proofs.Common.{◌∙◌, Bool, map, length, Ok, refl, sym, ap, subst}
use Rattle.rist_sender.specs.Calls.{IfElse}
use Rattle.rist_send.specs.declared.progress.Progress.{Progress}
use Rattle.rist_send.specs.Run.{setup_of, is_due}
use Rattle.rist_send.specs.Turns.{BringsDue, Stays}
use Rattle.rist_send.specs.Inside.Moves.{with_source}
use Rattle.rist_send.proofs.MoveLemmas.{moves_none, moves_as}
use Rattle.rist_send.proofs.piece.bring_due.Goals as goal

pub returns-then-is_due-clause-work : goal.returns-then-is_due-clause-work
returns-then-is_due-clause-work g c = λ from at.
    let setup = setup_of c.args.settings.now c.args.sender.now (length c.args.links.now) in
    let yes = c.if-is_due.ensures.value ∙ ap (λ (p : Progress). is_due c.args.settings.now p c.args.k) (sym at.progress) in
    moves_as _ c.args.sender.now c.bring_ready.new.sender c.bring_ready.new.progress _ _ c.args.links.now c.bring_ready.new.links from _ _ (c.bring_ready.ensures.work c.args.settings.now from at) (λ to is. is)
    (λ to fact. subst (λ (b : Bool). IfElse b (BringsDue setup c.args.k c.bring_ready.result from to) (Stays c.bring_ready.result from to)) yes fact)

pub returns-else-is_due-clause-work : goal.returns-else-is_due-clause-work
returns-else-is_due-clause-work g c = λ from at.
    let setup = setup_of c.args.settings.now c.args.sender.now (length c.args.links.now) in
    let no = c.if-is_due.ensures.value ∙ ap (λ (p : Progress). is_due c.args.settings.now p c.args.k) (sym at.progress) in
    moves_none _ c.args.sender.now c.args.progress.now (with_source from (g.S.Source.remaining c.args.source.now) (g.S.LiveSource.payloads c.args.source.now) (map g.L.Link.reads c.args.links.now)) c.args.links.now from _ from refl at
    (subst (λ (b : Bool). IfElse b (BringsDue setup c.args.k (Ok tt) from from) (Stays (Ok tt) from from)) no (refl, refl))

pub returns-else-is_due-clause-waits : goal.returns-else-is_due-clause-waits
returns-else-is_due-clause-waits g c = λ n. record { never = n; faults = refl; stage = refl }
