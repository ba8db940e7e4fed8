-- A step of the buffer, and what it added.
use Rattle.std.proofs.Common.{◌≡◌, ◌∷◌, ◌∙◌, ◌-◌, ◌/◌, ℕ, max, ap, sym, subst, unwrap_or, Some, arith}
use Rattle.receiver_rules.specs.declared.limits.Limits.{Limits}
use Rattle.receiver_rules.specs.Epochs.{epochs_of}
use Rattle.reorder_buffer.specs.State.{State}
use Rattle.reorder_buffer.specs.StateAfter.{IsStateAfter, Shows}
use Rattle.receiver_rules.specs.History.{epoch_number}
use Rattle.reorder_buffer.proofs.PhaseLemmas.{not_failed}
use Rattle.request_rules.specs.Steps.{Step, buffer_history, effective_time}
use Rattle.rist_ends.specs.Told.{step_of}
use Rattle.time_series.specs.Points.{capped}
use Rattle.value_histogram.specs.Ranks.{HistogramState, IsHistogramOf}
use Rattle.session_figures.specs.declared.jitter.Jitter.{Jitter}
use Rattle.rist_ends.specs.declared.numbers.Numbers.{Numbers}
use Rattle.rist_ends.specs.Numbers.{AreNumbersOf, missing_count}
use Rattle.session_figures.specs.Amounts.{playout_by, restarts_by}
use Rattle.session_figures.specs.Playout.{standing_of}
use Rattle.session_figures.specs.Spreads.{jitters_of, last_transit, trips_of}
use Rattle.session_figures.specs.Counting.{AreJittersOf, AreSeriesOf, CounterState, IsCountedAfter}
use Rattle.session_figures.specs.Inside.Taking.{with_passed}
use Rattle.session_figures.proofs.FigureLemmas.{counted_on, first_is, jitters_more, record_is}
use Rattle.session_figures.proofs.PlayoutLemmas.{playout_is}
use Rattle.session_figures.proofs.counter.Counter.step.Goals as goal

waited_is : (time tick now : ℕ) → time ≡ now → max time tick - time ≡ max tick now - now
waited_is time tick now is = omega (arith, is)

pub returns-clause-state : goal.returns-clause-state
returns-clause-state c running history is =
    let inside : CounterState = record { buffer = c.self.inside.buffer; delay = c.self.inside.delay; time = c.self.inside.time; start = c.self.inside.start; numbers = c.self.inside.numbers; missing = c.self.inside.missing; table = c.self.inside.table; jitter = c.self.inside.jitter; trips = c.self.inside.trips } in
    let here : IsCountedAfter inside history = subst (λ (x : CounterState). IsCountedAfter x history) (sym c.self.view_is) is in
    let step : Step = step_of c.args.told.now in
    let stepped = c.step_buffer-amounts.ensures in
    let counted = c.count.ensures in
    let new : CounterState = c.count.new.self in
    let buffer : State = c.step_buffer-amounts.new.buffer in
    let numbers : Numbers = c.step_buffer-amounts.new.numbers in
    let tick : c.tick_of-tick.result ≡ step.tick = c.tick_of-tick.ensures.value in
    let limits : buffer.limits ≡ inside.buffer.limits = stepped.limits in
    let state : IsStateAfter buffer (buffer_history (step ∷ history)) = stepped.state (buffer_history history) here.state in
    let are : AreNumbersOf numbers (epochs_of inside.buffer.limits (buffer_history (step ∷ history))) = stepped.numbers history here.state here.numbers in
    let missing : new.missing ≡ capped (missing_count buffer.limits (buffer_history (step ∷ history))) =
    counted.missing (buffer_history (step ∷ history)) state (not_failed buffer.phase stepped.time.1)
    (subst (λ (l : Limits). AreNumbersOf numbers (epochs_of l (buffer_history (step ∷ history)))) (sym limits) are) in
    let before : Shows inside.buffer (buffer_history history) = here.state (not_failed inside.buffer.phase (ap (λ (x : CounterState). x.buffer.phase) c.self.view_is ∙ running)) in
    let after : Shows buffer (buffer_history (step ∷ history)) = state (not_failed buffer.phase stepped.time.1) in
    let restarts : c.saturating_sub-restarts.result ≡ restarts_by inside.buffer.limits history step =
    c.saturating_sub-restarts.ensures ∙ ap (λ (n : ℕ). n - c.epoch-epoch.result) (c.epoch.ensures.value ∙ after.epoch ∙ ap (λ (l : Limits). epoch_number l (buffer_history (step ∷ history))) limits)
    ∙ ap (λ (n : ℕ). epoch_number inside.buffer.limits (buffer_history (step ∷ history)) - n) (c.epoch-epoch.ensures.value ∙ before.epoch) in
    let first = first_is inside.buffer.limits history step c.step_buffer-amounts.result (stepped.amounts history here.state) in
    let jitters = jitters_more inside.buffer.limits history step c.take.new.self c.saturating_sub-restarts.result c.step_buffer-amounts.result.first c.tick_of-tick.result c.stamp_of.result
    restarts first tick (c.stamp_of.ensures.value c.args.told.now.us) (c.take.ensures.state (last_transit inside.buffer.limits history) (jitters_of inside.buffer.limits history) here.jitters) in
    let stood = c.of-before.ensures.value (buffer_history history) here.state in
    let stands = c.of-after.ensures.value (buffer_history (step ∷ history)) state ∙ ap (λ (l : Limits). standing_of l (buffer_history (step ∷ history))) limits in
    let waited : c.saturating_sub.result ≡ effective_time (step ∷ history) - effective_time history =
    c.saturating_sub.ensures ∙ ap (λ (t : ℕ). t - inside.time) (c.max-at.ensures ∙ ap (λ (t : ℕ). max inside.time t) tick) ∙ waited_is inside.time step.tick (effective_time history) here.now in
    let played : c.to-playout.result ≡ playout_by inside.buffer.limits history step =
    c.to-playout.ensures.value ∙ playout_is inside.buffer.limits history step c.of-before.result c.of-after.result inside.delay c.saturating_sub.result c.saturating_sub-restarts.result stood stands here.delay waited restarts in
    let samples = c.take_trip.ensures.state (trips_of history) here.samples in
    let second : (c.max-at.result - unwrap_or inside.start c.tick_of-tick.result) / 90000 ≡ (new.time - unwrap_or inside.start step.tick) / 90000 =
    ap (λ (t : ℕ). (t - unwrap_or inside.start c.tick_of-tick.result) / 90000) (sym counted.same.2.0.0)
    ∙ ap (λ (t : ℕ). (new.time - unwrap_or inside.start t) / 90000) tick in
    counted_on inside new step history c.step_buffer-amounts.result 1 c.saturating_sub-restarts.result c.to-playout.result here
    (ap (λ (b : State). b.limits) counted.same.0 ∙ limits)
    counted.same.2.0.1
    (subst (λ (b : State). IsStateAfter b (buffer_history (step ∷ history))) (sym counted.same.0) state)
    (counted.same.2.0.0 ∙ c.max-at.ensures ∙ ap (λ (t : ℕ). max inside.time t) tick)
    (counted.start ∙ ap (λ (t : ℕ). Some (unwrap_or inside.start t)) tick)
    (subst (λ (n : Numbers). AreNumbersOf n (epochs_of inside.buffer.limits (buffer_history (step ∷ history)))) (sym counted.same.1) are)
    (missing ∙ ap (λ (l : Limits). capped (missing_count l (buffer_history (step ∷ history)))) limits)
    (stepped.amounts history here.state)
    (record_is c.args.told.now c.requires.going)
    restarts
    played
    (subst (λ (j : Jitter). AreJittersOf j (last_transit inside.buffer.limits (step ∷ history)) (jitters_of inside.buffer.limits (step ∷ history))) (sym counted.same.2.1.0) jitters)
    (subst (λ (h : HistogramState). IsHistogramOf h (trips_of (step ∷ history))) (sym counted.same.2.1.1) samples)
    (λ entries series. subst (λ (s : ℕ). AreSeriesOf new.table (record { second = s; amounts = with_passed c.step_buffer-amounts.result (record { records = 1; missing = new.missing - inside.missing; restarts = c.saturating_sub-restarts.result; playout = c.to-playout.result }) } ∷ entries)) second (counted.series entries series))
