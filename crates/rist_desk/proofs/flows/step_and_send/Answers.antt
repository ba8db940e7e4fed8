-- By what the step was answered.
use Rattle.std.proofs.Common.{Some, [], ◌∷◌, refl}
use Rattle.rist_ends.specs.Outcome.{outcome_with}
use Rattle.rist_desk.specs.declared.ended.Ended.TheVariants as ends
use Rattle.rist_desk.specs.declared.step.Step.{Step}
use Rattle.rist_desk.specs.Items.{told_plan}
use Rattle.rist_desk.specs.Sending.{one}
use Rattle.rist_desk.specs.Work.{OwnTold, holds, own_told}
use Rattle.rist_desk.proofs.SendLemmas.{Said, gains_same, keyed_where_spent, step_stopped, step_fault, step_spent, step_verdict, step_nothing, step_sent, step_half}
use Rattle.rist_desk.proofs.WorkLemmas.{not_made}
use Rattle.rist_desk.proofs.flows.step_and_send.Goals as goal

pub returns-in-Err-clause-err : goal.returns-in-Err-clause-err
returns-in-Err-clause-err g c =
    let own : OwnTold Step = own_told (g.S.Shares.list c.args.own.now) (g.S.Shares.seen c.args.own.now) in
    let new : OwnTold Step = own_told (g.S.Shares.list c.step_seen-stepped.new.own) (g.S.Shares.seen c.step_seen-stepped.new.own) in
    let taken = g.L.Link.taken c.args.link.now in
    not_made (one (Some g.S.Shares.given)) ends.TraceFull (holds own taken) (holds new taken) (told_plan (g.L.Link.knows c.args.link.now) c.args.told.now)
    (gains_same (one (Some g.S.Shares.given)) own new taken c.in-Err.ensures.same c.in-Err.ensures.unseen) (λ missing some. (refl, some))

pub returns-in-Stopped-clause-err : goal.returns-in-Stopped-clause-err
returns-in-Stopped-clause-err g c =
    let own : OwnTold Step = own_told (g.S.Shares.list c.args.own.now) (g.S.Shares.seen c.args.own.now) in
    let new : OwnTold Step = own_told (g.S.Shares.list c.step_seen-stepped.new.own) (g.S.Shares.seen c.step_seen-stepped.new.own) in
    let told = c.args.told.now in
    let said : Said g.S.Shares.given told (outcome_with c.in-Ok.answer c.step_seen-stepped.new.outs) own new = record { list = c.in-Ok.ensures.list; due = c.in-Ok.ensures.due } in
    step_stopped g.S.Shares.given (g.L.Link.knows c.args.link.now) told c.in-Ok.answer c.step_seen-stepped.new.outs own new _ said c.in-Stopped.is

pub returns-in-WriteFault-clause-err : goal.returns-in-WriteFault-clause-err
returns-in-WriteFault-clause-err g c =
    let own : OwnTold Step = own_told (g.S.Shares.list c.args.own.now) (g.S.Shares.seen c.args.own.now) in
    let new : OwnTold Step = own_told (g.S.Shares.list c.step_seen-stepped.new.own) (g.S.Shares.seen c.step_seen-stepped.new.own) in
    let told = c.args.told.now in
    let said : Said g.S.Shares.given told (outcome_with c.in-Ok.answer c.step_seen-stepped.new.outs) own new = record { list = c.in-Ok.ensures.list; due = c.in-Ok.ensures.due } in
    step_fault g.S.Shares.given (g.L.Link.knows c.args.link.now) told c.in-Ok.answer c.step_seen-stepped.new.outs own new _ said c.in-WriteFault.is

pub returns-in-Spent-clause-err : goal.returns-in-Spent-clause-err
returns-in-Spent-clause-err g c =
    let own : OwnTold Step = own_told (g.S.Shares.list c.args.own.now) (g.S.Shares.seen c.args.own.now) in
    let new : OwnTold Step = own_told (g.S.Shares.list c.step_seen-stepped.new.own) (g.S.Shares.seen c.step_seen-stepped.new.own) in
    let told = c.args.told.now in
    let said : Said g.S.Shares.given told (outcome_with c.in-Ok.answer c.step_seen-stepped.new.outs) own new = record { list = c.in-Ok.ensures.list; due = c.in-Ok.ensures.due } in
    step_spent g.S.Shares.given (g.L.Link.knows c.args.link.now) told c.in-Ok.answer c.step_seen-stepped.new.outs own new _ said c.in-Spent.is

pub returns-in-Verdict-clause-ok : goal.returns-in-Verdict-clause-ok
returns-in-Verdict-clause-ok g c =
    let own : OwnTold Step = own_told (g.S.Shares.list c.args.own.now) (g.S.Shares.seen c.args.own.now) in
    let new : OwnTold Step = own_told (g.S.Shares.list c.step_seen-stepped.new.own) (g.S.Shares.seen c.step_seen-stepped.new.own) in
    let told = c.args.told.now in
    let said : Said g.S.Shares.given told (outcome_with c.in-Ok.answer c.step_seen-stepped.new.outs) own new = record { list = c.in-Ok.ensures.list; due = c.in-Ok.ensures.due } in
    step_verdict g.S.Shares.given (g.L.Link.knows c.args.link.now) told c.in-Ok.answer c.in-Verdict.field-0 c.step_seen-stepped.new.outs own new _ said c.in-Verdict.is

pub returns-in-Nothing-clause-ok : goal.returns-in-Nothing-clause-ok
returns-in-Nothing-clause-ok g c =
    let own : OwnTold Step = own_told (g.S.Shares.list c.args.own.now) (g.S.Shares.seen c.args.own.now) in
    let new : OwnTold Step = own_told (g.S.Shares.list c.step_seen-stepped.new.own) (g.S.Shares.seen c.step_seen-stepped.new.own) in
    let told = c.args.told.now in
    let said : Said g.S.Shares.given told (outcome_with c.in-Ok.answer c.step_seen-stepped.new.outs) own new = record { list = c.in-Ok.ensures.list; due = c.in-Ok.ensures.due } in
    step_nothing g.S.Shares.given (g.L.Link.knows c.args.link.now) told c.in-Ok.answer c.step_seen-stepped.new.outs own new _ said c.in-Nothing.is

pub returns-in-Ok-send-clause-ok : goal.returns-in-Ok-send-clause-ok
returns-in-Ok-send-clause-ok g c =
    let own : OwnTold Step = own_told (g.S.Shares.list c.args.own.now) (g.S.Shares.seen c.args.own.now) in
    let new : OwnTold Step = own_told (g.S.Shares.list c.step_seen-stepped.new.own) (g.S.Shares.seen c.step_seen-stepped.new.own) in
    let told = c.args.told.now in
    let said : Said g.S.Shares.given told (outcome_with c.in-Ok.answer c.step_seen-stepped.new.outs) own new = record { list = c.in-Ok.ensures.list; due = c.in-Ok.ensures.due } in
    step_sent g.S.Shares.given (g.L.Link.knows c.args.link.now) told c.in-Ok.answer c.step_seen-stepped.new.outs own new _ _ said c.in-Made.is c.in-Ok-send.ensures.ok

pub returns-in-Err-send-clause-err : goal.returns-in-Err-send-clause-err
returns-in-Err-send-clause-err g c =
    let own : OwnTold Step = own_told (g.S.Shares.list c.args.own.now) (g.S.Shares.seen c.args.own.now) in
    let new : OwnTold Step = own_told (g.S.Shares.list c.step_seen-stepped.new.own) (g.S.Shares.seen c.step_seen-stepped.new.own) in
    let told = c.args.told.now in
    let said : Said g.S.Shares.given told (outcome_with c.in-Ok.answer c.step_seen-stepped.new.outs) own new = record { list = c.in-Ok.ensures.list; due = c.in-Ok.ensures.due } in
    step_half g.S.Shares.given (g.L.Link.knows c.args.link.now) told c.in-Ok.answer c.step_seen-stepped.new.outs own new _ _ said c.in-Made.is c.in-Err-send.ensures.err

pub returns-in-Spent-clause-spent : goal.returns-in-Spent-clause-spent
returns-in-Spent-clause-spent g c is =
    let own : OwnTold Step = own_told (g.S.Shares.list c.args.own.now) (g.S.Shares.seen c.args.own.now) in
    let new : OwnTold Step = own_told (g.S.Shares.list c.step_seen-stepped.new.own) (g.S.Shares.seen c.step_seen-stepped.new.own) in
    let told = c.args.told.now in
    let said : Said g.S.Shares.given told (outcome_with c.in-Ok.answer c.step_seen-stepped.new.outs) own new = record { list = c.in-Ok.ensures.list; due = c.in-Ok.ensures.due } in
    keyed_where_spent g.S.Shares.given told c.in-Ok.answer c.step_seen-stepped.new.outs own new said c.in-Spent.is
