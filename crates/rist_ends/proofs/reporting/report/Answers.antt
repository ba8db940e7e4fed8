-- What the reporter says of its own calls, of what is told.
use Rattle.std.proofs.Common.{◌∙◌, ◌∷◌, refl, sym, subst, Bool, not, nat_eq}
use Rattle.receiver_rules.specs.Steps.{tick_of}
use Rattle.receiver_rules.specs.Seen.{seen}
use Rattle.request_rules.specs.Steps.{Step, buffer_history}
use Rattle.rist_reporter.specs.Reporter.{IsReporterAfter, settings_with}
use Rattle.rist_reporter.specs.OneMore.{AnswersAfter, step_answered, IsReceived}
use Rattle.rist_ends.specs.declared.told.What.{What}
use Rattle.rist_ends.specs.Told.{IsFitWhat, input_of}
use Rattle.rist_ends.specs.Inside.Stepping.{SaysVerdictOn}
use Rattle.rist_ends.specs.Inside.Reporting.{made_in}
use Rattle.rist_ends.proofs.ReportLemmas.{media_told_step, control_told_step, silent_told_stands, is_received, same_place, other_place}
use Rattle.rist_ends.proofs.reporting.report.Goals as goal

pub returns-in-Some-clause-state : goal.returns-in-Some-clause-state
returns-in-Some-clause-state c history between running =
    let told = c.args.told.now in
    let b = c.args.buffer.now in
    let arrival = c.in-Media.arrival in
    let opened : Bool = not (nat_eq c.epoch.result c.args.epoch) in
    let fits = subst IsFitWhat c.in-Media.is c.requires.fits.word in
    let says = subst (λ (w : What). SaysVerdictOn c.args.stepped.now.verdict b.limits (buffer_history history) (tick_of told.us) (input_of told.us w)) c.in-Media.is between.says in
    let got = is_received b told arrival history c.in-Some.verdict c.args.stepped.now.at c.high.result c.in-Media.is c.requires.delay fits.word running (c.requires.clock running) between.buffer (sym c.in-Some.is ∙ says) c.high.ensures.number c.args.epoch opened between.place_is
    (λ o. sym c.epoch.ensures.value ∙ same_place c.epoch.result c.args.epoch opened refl o) (λ o same. other_place c.epoch.result c.args.epoch opened refl o (c.epoch.ensures.value ∙ same)) in
    subst (λ (st : Step). IsReporterAfter c.received.new.self b.limits (st ∷ history)) (sym (media_told_step told arrival c.in-Media.is))
    (c.received.ensures.state b.limits history told.link (tick_of told.us) (seen arrival) between.reporter
    (subst (λ (k : Bool). IsReceived b.limits history told.link (tick_of told.us) (seen arrival) c.args.stepped.now.at arrival.width k opened c.high.result) (sym c.is_kept.ensures) got))

pub returns-in-Control-clause-made : goal.returns-in-Control-clause-made
returns-in-Control-clause-made c history between =
    let told = c.args.told.now in
    let settings = settings_with c.args.buffer.now.limits c.args.reporter.now in
    subst (λ (st : Step). AnswersAfter settings c.args.reporter.now.shutter history st (made_in c.answer_compound.result c.answer_compound.new.outs)) (sym (control_told_step told c.in-Control.compound c.in-Control.is))
    (c.answer_compound.ensures.answer c.args.buffer.now.limits history (tick_of told.us) between.reporter)

pub returns-in-Control-clause-state : goal.returns-in-Control-clause-state
returns-in-Control-clause-state c history between running =
    let told = c.args.told.now in
    let limits = c.args.buffer.now.limits in
    subst (λ (st : Step). IsReporterAfter c.answer_compound.new.reporter limits (step_answered st (made_in c.answer_compound.result c.answer_compound.new.outs) ∷ history)) (sym (control_told_step told c.in-Control.compound c.in-Control.is))
    (c.answer_compound.ensures.state limits history (tick_of told.us) between.reporter)

pub returns-in-Keepalive-clause-state : goal.returns-in-Keepalive-clause-state
returns-in-Keepalive-clause-state c history between running =
    silent_told_stands c.args.reporter.now c.args.buffer.now c.args.buffer.now.limits c.args.told.now history c.in-Keepalive.is c.requires.phase running between.reporter

pub returns-in-Keepalive-2-clause-state : goal.returns-in-Keepalive-2-clause-state
returns-in-Keepalive-2-clause-state c history between running =
    silent_told_stands c.args.reporter.now c.args.buffer.now c.args.buffer.now.limits c.args.told.now history c.in-Keepalive.is c.requires.phase running between.reporter
