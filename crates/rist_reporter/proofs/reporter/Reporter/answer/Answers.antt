-- The sample is taken, and what is made leaves the rest.
use Rattle.std.proofs.Common.{◌∙◌, ap}
use Rattle.rist_reporter.specs.Reporter.{ReporterState}
use Rattle.rist_reporter.proofs.TickLemmas.{keepalive_stands}
use Rattle.rist_reporter.proofs.MediaLemmas.{control_stands}
use Rattle.rist_reporter.proofs.reporter.Reporter.answer.Goals as goal

pub returns-then-self-clause-state : goal.returns-then-self-clause-state
returns-then-self-clause-state c limits before tick s =
    let f = c.take_sample.ensures.value in
    control_stands c.args.self.now _ limits before c.args.link tick c.args.us c.args.compound.now c.requires.link
    (ap (λ (x : ReporterState). x.timer) f) (ap (λ (x : ReporterState). x.links) f) (ap (λ (x : ReporterState). x.width) f) s

pub returns-then-is_short-clause-state : goal.returns-then-is_short-clause-state
returns-then-is_short-clause-state c limits before tick s = keepalive_stands c.args.self.now limits before c.args.link tick s

pub returns-clause-state : goal.returns-clause-state
returns-clause-state c limits before tick s =
    let f = c.self-2.view_is ∙ c.take_sample-2.ensures.value in
    control_stands c.args.self.now _ limits before c.args.link tick c.args.us c.args.compound.now c.requires.link
    (ap (λ (x : ReporterState). x.timer) f) (ap (λ (x : ReporterState). x.links) f) (ap (λ (x : ReporterState). x.width) f) s
