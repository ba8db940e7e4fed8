-- What the reporter answers, as the answer and the memory for datagrams tell it.
use Rattle.std.proofs.Common.{◌∷◌, sym, subst}
use Rattle.rist_reporter.specs.Reporter.{IsReporterAfter, settings_with}
use Rattle.rist_reporter.specs.OneMore.{AnswersAfter, control_step, step_answered}
use Rattle.rist_ends.proofs.reporting.answer_compound.Goals as goal

pub returns-clause-answer : goal.returns-clause-answer
returns-clause-answer c limits before tick s =
    subst (λ made. AnswersAfter (settings_with limits c.args.reporter.now) c.args.reporter.now.shutter before (control_step c.args.link tick c.args.us c.args.compound.now) made) (sym c.answer_with.ensures.made)
    (c.answer.ensures.answer limits before tick s)

pub returns-clause-state : goal.returns-clause-state
returns-clause-state c limits before tick s =
    subst (λ made. IsReporterAfter c.answer.new.self limits (step_answered (control_step c.args.link tick c.args.us c.args.compound.now) made ∷ before)) (sym c.answer_with.ensures.made)
    (c.answer.ensures.state limits before tick s)
