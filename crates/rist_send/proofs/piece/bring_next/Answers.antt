use Rattle.std.proofs.Common.{◌∙◌, map, length, Ok, refl, sym, ap, subst}
use Rattle.rist_send.specs.declared.progress.Progress.{Progress}
use Rattle.rist_send.specs.declared.progress.Stage.{Stage}
use Rattle.rist_send.specs.Run.{setup_of}
use Rattle.rist_send.specs.Turns.{BringsNext}
use Rattle.rist_send.specs.Inside.Moves.{with_source}
use Rattle.rist_send.proofs.MoveLemmas.{moves_none, moves_as}
use Rattle.rist_send.proofs.piece.bring_next.Goals as goal

pub returns-in-Reading-clause-work : goal.returns-in-Reading-clause-work
returns-in-Reading-clause-work g c = λ from at.
    let setup = setup_of c.args.settings.now c.args.sender.now (length c.args.links.now) in
    moves_as _ c.args.sender.now c.bring_due.new.sender c.bring_due.new.progress _ _ c.args.links.now c.bring_due.new.links from _ _ (c.bring_due.ensures.work from at) (λ to is. is)
    (λ to fact. subst (λ (s : Stage). BringsNext setup s c.bring_due.result from to) (sym (ap (λ (p : Progress). p.stage) at.progress ∙ c.in-Reading.is)) fact)

pub returns-in-Ended-clause-work : goal.returns-in-Ended-clause-work
returns-in-Ended-clause-work g c = λ from at.
    let setup = setup_of c.args.settings.now c.args.sender.now (length c.args.links.now) in
    moves_none _ c.args.sender.now c.args.progress.now (with_source from (g.S.Source.remaining c.args.source.now) (g.S.LiveSource.payloads c.args.source.now) (map g.L.Link.reads c.args.links.now)) c.args.links.now from _ from refl at
    (subst (λ (s : Stage). BringsNext setup s (Ok tt) from from) (sym (ap (λ (p : Progress). p.stage) at.progress ∙ c.in-Ended.is)) (refl, refl))

pub returns-in-Ended-clause-waits : goal.returns-in-Ended-clause-waits
returns-in-Ended-clause-waits g c = λ n. record { never = n; faults = refl; stage = refl }
