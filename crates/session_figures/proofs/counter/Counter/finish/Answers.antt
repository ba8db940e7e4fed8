-- All that waits is let out, and what the playout passed then is counted.
use Rattle.std.proofs.Common.{◌≡◌, ◌≢◌, ◌∷◌, ◌∙◌, ◌-◌, ◌/◌, ℕ, max, ap, refl, sym, subst, unwrap_or, arith}
use Rattle.receiver_rules.specs.declared.limits.Limits.{Limits}
use Rattle.receiver_rules.specs.Epochs.{epochs_of}
use Rattle.reorder_buffer.specs.State.{State}
use Rattle.reorder_buffer.specs.StateAfter.{IsStateAfter}
use Rattle.reorder_buffer.specs.declared.phase.Phase.{Phase}
use Rattle.reorder_buffer.specs.declared.phase.Phase.TheVariants.{Ended, Failed}
use Rattle.request_rules.specs.Steps.{buffer_history, effective_time}
use Rattle.session_figures.specs.Amounts.{playout_by}
use Rattle.session_figures.specs.Playout.{standing_of}
use Rattle.time_series.specs.Points.{capped}
use Rattle.value_histogram.specs.Ranks.{HistogramState, IsHistogramOf}
use Rattle.session_figures.specs.declared.jitter.Jitter.{Jitter}
use Rattle.rist_ends.specs.declared.numbers.Numbers.{Numbers}
use Rattle.rist_ends.specs.Numbers.{AreNumbersOf, missing_count}
use Rattle.session_figures.specs.Spreads.{jitters_of, last_transit, trips_of}
use Rattle.session_figures.specs.Counting.{AreJittersOf, AreSeriesOf, CounterState, IsCountedAfter, end_told}
use Rattle.session_figures.specs.Inside.Taking.{with_passed}
use Rattle.session_figures.proofs.FigureLemmas.{counted_on, end_restarts, jitters_end}
use Rattle.session_figures.proofs.PlayoutLemmas.{playout_is}
use Rattle.session_figures.proofs.counter.Counter.finish.Goals as goal

over : (phase : Phase) → phase ≡ Ended → phase ≢ Failed
over phase e f = cc

no_time : (n : ℕ) → 0 ≡ max 0 n - n
no_time n = omega arith

pub returns-clause-state : goal.returns-clause-state
returns-clause-state c running history is =
    let inside : CounterState = record { buffer = c.self.inside.buffer; delay = c.self.inside.delay; time = c.self.inside.time; start = c.self.inside.start; numbers = c.self.inside.numbers; missing = c.self.inside.missing; table = c.self.inside.table; jitter = c.self.inside.jitter; trips = c.self.inside.trips } in
    let here : IsCountedAfter inside history = subst (λ (x : CounterState). IsCountedAfter x history) (sym c.self.view_is) is in
    let counted = c.count.ensures in
    let new : CounterState = c.count.new.self in
    let buffer : State = c.flush.new.buffer in
    let limits : buffer.limits ≡ inside.buffer.limits = c.flush.ensures.limits in
    let state : IsStateAfter buffer (buffer_history (end_told ∷ history)) = c.flush.ensures.state (buffer_history history) here.state in
    let are : AreNumbersOf inside.numbers (epochs_of inside.buffer.limits (buffer_history (end_told ∷ history))) = here.numbers in
    let missing : new.missing ≡ capped (missing_count buffer.limits (buffer_history (end_told ∷ history))) =
    counted.missing (buffer_history (end_told ∷ history)) state (over buffer.phase c.flush.ensures.ended)
    (subst (λ (l : Limits). AreNumbersOf inside.numbers (epochs_of l (buffer_history (end_told ∷ history)))) (sym limits) are) in
    let before = c.of-before.ensures.value (buffer_history history) here.state in
    let after = c.of-after.ensures.value (buffer_history (end_told ∷ history)) state ∙ ap (λ (l : Limits). standing_of l (buffer_history (end_told ∷ history))) limits in
    let played : c.to-playout.result ≡ playout_by inside.buffer.limits history end_told =
    c.to-playout.ensures.value ∙ playout_is inside.buffer.limits history end_told c.of-before.result c.of-after.result inside.delay 0 0 before after here.delay (no_time (effective_time history)) (end_restarts inside.buffer.limits history) in
    let now : new.time ≡ inside.time = counted.same.2.0.0 in
    counted_on inside new end_told history c.silent.result 0 0 c.to-playout.result here
    (ap (λ (b : State). b.limits) counted.same.0 ∙ limits)
    counted.same.2.0.1
    (subst (λ (b : State). IsStateAfter b (buffer_history (end_told ∷ history))) (sym counted.same.0) state)
    (omega (arith, now))
    counted.start
    (subst (λ (n : Numbers). AreNumbersOf n (epochs_of inside.buffer.limits (buffer_history (end_told ∷ history)))) (sym counted.same.1) are)
    (missing ∙ ap (λ (l : Limits). capped (missing_count l (buffer_history (end_told ∷ history)))) limits)
    c.silent.ensures.value
    refl
    (end_restarts inside.buffer.limits history)
    played
    (subst (λ (j : Jitter). AreJittersOf j (last_transit inside.buffer.limits (end_told ∷ history)) (jitters_of inside.buffer.limits (end_told ∷ history))) (sym counted.same.2.1.0) (jitters_end inside.buffer.limits history inside.jitter here.jitters))
    (subst (λ (h : HistogramState). IsHistogramOf h (trips_of (end_told ∷ history))) (sym counted.same.2.1.1) here.samples)
    (λ entries series. subst (λ (t : ℕ). AreSeriesOf new.table (record { second = (t - unwrap_or inside.start 0) / 90000; amounts = with_passed c.silent.result (record { records = 0; missing = new.missing - inside.missing; restarts = 0; playout = c.to-playout.result }) } ∷ entries)) (sym now) (counted.series entries series))
