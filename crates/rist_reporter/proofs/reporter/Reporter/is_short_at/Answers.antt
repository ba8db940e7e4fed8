-- As many datagrams as are due.
use Rattle.std.proofs.Common.{◌≡◌, ◌∙◌, ap, sym, Bool, false}
use Rattle.rist_wire.specs.Writing.{pairs_left}
use Rattle.request_rules.specs.Requests.{asked_words}
use Rattle.rist_reporter.specs.Reporter.{ReporterState}
use Rattle.rist_reporter.specs.OneMore.{is_short}
use Rattle.rist_reporter.specs.Inside.Due.{datagrams_due, how_many, lacks_for}
use Rattle.rist_reporter.proofs.TickLemmas.{counted}
use Rattle.rist_reporter.proofs.reporter.Reporter.is_short_at.Goals as goal

pub returns : goal.returns
returns c = record {
  value = λ before link tick micros s stands rtts.
      let words = asked_words c.args.buffer.now.limits c.args.self.now.timer.policy before c.args.at in
      let unmuted : c.args.self.now.is_muted ≡ false = ap (λ (r : ReporterState). r.is_muted) (sym c.self.view_is) ∙ c.if-self.false in
      c.is_short-2.ensures.value
      ∙ ap (λ (r : ReporterState). is_short (pairs_left r.shutter.sealer) c.how_many.result) c.self.view_is
      ∙ ap (is_short (pairs_left c.args.self.now.shutter.sealer)) (c.how_many.ensures.value ∙ ap (λ (b : Bool). how_many b c.args.due.now.is_keepalive) (c.has_compound_at-has_compound.ensures.value before link tick micros s stands rtts) ∙ sym (counted c.args.due.now words))
      ∙ ap (λ (m : Bool). lacks_for m (pairs_left c.args.self.now.shutter.sealer) (datagrams_due c.args.due.now words)) (sym unmuted);
}
