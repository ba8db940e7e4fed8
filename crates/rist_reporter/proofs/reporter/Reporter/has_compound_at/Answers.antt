use Rattle.std.proofs.Common.{◌∙◌, ◌||◌, ap, sym, subst, Bool}
use Rattle.request_rules.specs.Requests.{asked_words}
use Rattle.nack_timer.specs.TimerAfter.{IsTimerAfter}
use Rattle.rist_reporter.specs.Control.{is_any}
use Rattle.rist_reporter.specs.Reporter.{ReporterState}
use Rattle.rist_reporter.proofs.TickLemmas.{same_any}
use Rattle.rist_reporter.proofs.reporter.Reporter.has_compound_at.Goals as goal

pub returns : goal.returns
returns c = record {
  value = λ before link tick micros s stands rtts.
      let limits = c.args.buffer.now.limits in
      c.would.ensures before link tick micros (subst (λ (r : ReporterState). IsTimerAfter r.timer limits before) (sym c.self.view_is) s) stands rtts
      ∙ same_any (asked_words limits c.self.inside.timer.policy before c.args.at)
      ∙ ap (λ (r : ReporterState). is_any (asked_words limits r.timer.policy before c.args.at)) c.self.view_is
      ∙ ap (λ (b : Bool). b || is_any (asked_words limits c.args.self.now.timer.policy before c.args.at)) (sym c.if-is_report.false);
}
