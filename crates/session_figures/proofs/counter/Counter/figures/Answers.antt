-- What is shown is what the history says.
use Rattle.std.proofs.Common.{◌≡◌, ◌∙◌, ◌-◌, ap, sym, subst, unwrap_or, Option, ℕ}
use Rattle.request_rules.specs.Steps.{buffer_history}
use Rattle.session_figures.specs.Counting.{CounterState, IsCountedAfter, figures_in}
use Rattle.session_figures.specs.Spreads.{jitters_of, trips_of}
use Rattle.session_figures.specs.Figures.{figures_of, start_of, ticks_of}
use Rattle.session_figures.proofs.FigureLemmas.{figures_same}
use Rattle.session_figures.proofs.counter.Counter.figures.Goals as goal

pub returns : goal.returns
returns c = record {
  value = λ live history is.
      let view = c.self.view_is in
      let inside : CounterState = record { buffer = c.self.inside.buffer; delay = c.self.inside.delay; time = c.self.inside.time; start = c.self.inside.start; numbers = c.self.inside.numbers; missing = c.self.inside.missing; table = c.self.inside.table; jitter = c.self.inside.jitter; trips = c.self.inside.trips } in
      let here : IsCountedAfter inside history = subst (λ (x : CounterState). IsCountedAfter x history) (sym view) is in
      let first : c.unwrap_or.result ≡ unwrap_or (start_of history) 0 = c.unwrap_or.ensures ∙ ap (λ (o : Option ℕ). unwrap_or o 0) here.first in
      let ticks : c.saturating_sub.result ≡ ticks_of history =
      c.saturating_sub.ensures ∙ ap (λ (u : ℕ). inside.time - u) first ∙ ap (λ (t : ℕ). t - unwrap_or (start_of history) 0) here.now in
      let sent = c.sent_now.ensures.value (buffer_history history) here.state (λ failed. live (sym (ap (λ (x : CounterState). x.buffer.phase) view) ∙ failed)) here.numbers in
      subst (λ (x : CounterState). figures_in c.saturating_sub.result c.sent_now.result c.spread.result c.spread-2.result c.self.inside.table ≡ figures_of x.buffer.limits history) view
      (figures_same inside.buffer.limits history inside.table c.saturating_sub.result c.sent_now.result c.spread.result c.spread-2.result ticks sent
      (c.spread.ensures.value (jitters_of inside.buffer.limits history) here.jitters.values) (c.spread-2.ensures.value (trips_of history) here.samples) here.series);
}
