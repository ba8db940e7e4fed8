use Rattle.std.proofs.Common.{◌∷◌, sym, ap, subst}
use Rattle.nack_timer.specs.State.{TimerState}
use Rattle.nack_timer.specs.Steps.{media_step}
use Rattle.nack_timer.specs.TimerAfter.{IsTimerAfter}
use Rattle.nack_timer.proofs.RaisedLemmas.{renewed_stands}
use Rattle.nack_timer.proofs.timer.Timer.renew.Goals as goal

pub returns : goal.returns
returns c = record {
  told = ap (λ (t : TimerState). t.high) c.begin.ensures;
  same = (ap (λ (t : TimerState). t.policy) c.begin.ensures, ap (λ (t : TimerState). t.span) c.begin.ensures);
  state = λ limits before link tick arrival s next top time.
      subst (λ (t : TimerState). IsTimerAfter t limits (media_step link tick arrival ∷ before)) (sym c.begin.ensures)
      (renewed_stands c.args.self.now limits before link tick c.args.high arrival s next top);
}
