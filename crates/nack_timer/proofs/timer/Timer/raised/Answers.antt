use Rattle.std.proofs.Common.{◌∷◌, sym, ap, subst}
use Rattle.nack_timer.specs.State.{TimerState}
use Rattle.nack_timer.specs.Steps.{media_step}
use Rattle.nack_timer.specs.TimerAfter.{IsTimerAfter}
use Rattle.nack_timer.proofs.RaisedLemmas.{raised_stands, some_above}
use Rattle.nack_timer.proofs.timer.Timer.raised.Goals as goal

pub raise-requires-clause-above : goal.raise-requires-clause-above
raise-requires-clause-above c = some_above c.args.self.now.high c.args.high c.requires.above

pub returns : goal.returns
returns c = record {
  told = ap (λ (t : TimerState). t.high) c.raise.ensures.value;
  same = (ap (λ (t : TimerState). t.policy) c.raise.ensures.value, ap (λ (t : TimerState). t.span) c.raise.ensures.value);
  state = λ limits before link tick arrival s of top time.
      subst (λ (t : TimerState). IsTimerAfter t limits (media_step link tick arrival ∷ before)) (sym c.raise.ensures.value)
      (raised_stands c.args.self.now limits before link tick c.args.at c.args.high arrival
      (record { timer = s; top = top; time = time; above = c.requires.above; some = c.raise.ensures.some; order = c.raise.ensures.order; of = of }));
}
