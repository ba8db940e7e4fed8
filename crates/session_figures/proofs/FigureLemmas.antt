-- The figures of a history with one more step.
use Rattle.std.proofs.Common.{◌≡◌, ◌≢◌, ℕ, ◌+◌, ◌-◌, ◌/◌, ◌^◌, ◌<◌, ◌≤◌, max, List, [], ◌∷◌, ◌++◌, map, length, Option, Some, unwrap_or, refl, sym, ap, ◌∙◌, subst, arith, inl, inr}
use Rattle.std.specs.Prelude.{slice_index_or, ◌==◌, if◌then◌else◌}
use Rattle.std.specs.List.{range_with_len}
use Rattle.std.proofs.lemmas.Bool.{cases_eq}
use Rattle.std.proofs.lemmas.List.{ext_get_or, get_or-map, length-map, get_or_append_left, get_or-append_right}
use Rattle.std.proofs.lemmas.List.FromFn.{length-map-range_with_len, get_or-map-range_with_len}
use Rattle.time_series.specs.Points.{Mark, SeriesState, IsSeriesOf, capped, shown_points, width_of}
use Rattle.time_series.proofs.SeriesLemmas.{shown}
use Rattle.time_series.proofs.PeakLemmas.{shown_peaks}
use Rattle.value_histogram.specs.declared.spread.Spread.{Spread}
use Rattle.value_histogram.specs.Ranks.{IsHistogramOf, spread_of}
use Rattle.receiver_rules.specs.declared.limits.Limits.{Limits}
use Rattle.receiver_rules.specs.Steps.{Step, Event, effective_time as buffer_time}
use Rattle.receiver_rules.specs.Epochs.{epochs_of, epochs_after}
use Rattle.receiver_rules.specs.History.{epoch_number}
use Rattle.reorder_buffer.specs.State.{State}
use Rattle.reorder_buffer.specs.StateAfter.{IsStateAfter}
use Rattle.request_rules.specs.Steps.{Input, Media, Control, Keepalive, Refused, Tick, End, Step as ReceiverStep, buffer_history, effective_time}
use Rattle.rist_ends.proofs.SteppingLemmas.{Goes, at_told}
use Rattle.rist_ends.specs.Told.{IsNoEnd, input_of}
use Rattle.rist_ends.specs.declared.told.Told.{Told}
use Rattle.rist_ends.specs.declared.told.What.{What}
use Rattle.rist_ends.specs.declared.told.What.TheVariants as told
use Rattle.session_figures.specs.declared.amounts.Amounts.{Amounts}
use Rattle.session_figures.specs.declared.amounts.Passed.{Passed}
use Rattle.session_figures.specs.declared.jitter.Jitter.{Jitter}
use Rattle.rist_ends.specs.declared.numbers.Numbers.{Numbers}
use Rattle.session_figures.specs.declared.playout.Playout.{Playout}
use Rattle.session_figures.specs.declared.table.Table.{Table}
use Rattle.rist_ends.specs.Numbers.{AreNumbersOf, missing_count, sent_count}
use Rattle.session_figures.specs.Amounts.{amounts_by, amounts_of, first_on, missing_by, nothing_passed, octets_on, passed_by, playout_by, records_in, recovered_on, restarts_by, used_before}
use Rattle.session_figures.specs.Spreads.{jitters_by, jitters_of, last_transit, timestamp_in, transit_before, transit_word, trips_of}
use Rattle.session_figures.specs.Figures.{Entry, entries_of, figures_of, links_by, marks_by, start_of, sums_by, ticks_of}
use Rattle.session_figures.specs.Counting.{AreJittersOf, AreLinksOf, AreSeriesOf, CounterState, IsCountedAfter, end_told, figures_in}
use Rattle.session_figures.specs.Inside.Taking.{with_passed}

-- ---- a step at the effective time

-- the epochs depend on the effective time alone
pub numbers_told : (b : State) (history : List Step) (now tick at : ℕ) (event : Event) (n : Numbers) → Goes b history now tick at
    → AreNumbersOf n (epochs_of b.limits (record { tick = at; event = event } ∷ history)) → AreNumbersOf n (epochs_of b.limits (record { tick = tick; event = event } ∷ history))
numbers_told b history now tick at event n g are =
    let e = at_told b history now tick at g in
    let same : max at (buffer_time history) ≡ max tick (buffer_time history) = omega (arith, e) in
    subst (λ (t : ℕ). AreNumbersOf n (epochs_after b.limits (epochs_of b.limits history) t event)) same are

-- ---- one more step

passed_set : (limits : Limits) (before : List ReceiverStep) (link tick : ℕ) (passed : Passed) (input : Input) → with_passed (amounts_by limits before link tick nothing_passed input) passed ≡ amounts_by limits before link tick passed input
passed_set limits before link tick passed (Media arrival) = refl
passed_set limits before link tick passed (Control sample request) = refl
passed_set limits before link tick passed Keepalive = refl
passed_set limits before link tick passed Refused = refl
passed_set limits before link tick passed (Tick micros) = refl
passed_set limits before link tick passed End = refl

-- what is no end is a record
pub record_is : (one : Told) → IsNoEnd one.what → 1 ≡ records_in (input_of one.us one.what)
record_is one going = by_what one.us one.what going
  where
    by_what : (us : ℕ) (what : What) → IsNoEnd what → 1 ≡ records_in (input_of us what)
    by_what us (told.Media arrival) going = refl
    by_what us (told.Control compound) going = refl
    by_what us told.Keepalive going = refl
    by_what us told.Refused going = refl
    by_what us told.Tick going = refl
    by_what us told.End going = absurd going

-- how many packets a step brings first time
pub first_is : (limits : Limits) (history : List ReceiverStep) (step : ReceiverStep) (amounts : Amounts) → amounts ≡ amounts_by limits history step.link step.tick nothing_passed step.input
    → amounts.first ≡ (amounts_of limits history step).first
first_is limits history step amounts is =
    ap (λ (a : Amounts). a.first) is
    ∙ ap (λ (a : Amounts). a.first) (passed_set limits history step.link step.tick (passed_by limits history step) step.input)

-- the jitters with one more step
pub jitters_more : (limits : Limits) (history : List ReceiverStep) (step : ReceiverStep) (new : Jitter) (restarts first tick stamp : ℕ)
    → restarts ≡ restarts_by limits history step → first ≡ (amounts_of limits history step).first → tick ≡ step.tick → stamp ≡ timestamp_in step.input
    → AreJittersOf new (if first == 0 then transit_before restarts (last_transit limits history) else Some (transit_word tick stamp))
    ((if first == 0 then [] else jitters_by (transit_before restarts (last_transit limits history)) (transit_word tick stamp)) ++ jitters_of limits history)
    → AreJittersOf new (last_transit limits (step ∷ history)) (jitters_of limits (step ∷ history))
jitters_more limits history step new restarts first tick stamp r f t s are =
    let known : ℕ → ℕ → ℕ → ℕ → Type 0 = λ a b c d.
    AreJittersOf new (if b == 0 then transit_before a (last_transit limits history) else Some (transit_word c d))
    ((if b == 0 then [] else jitters_by (transit_before a (last_transit limits history)) (transit_word c d)) ++ jitters_of limits history) in
    subst (λ (d : ℕ). known (restarts_by limits history step) (amounts_of limits history step).first step.tick d) s
    (subst (λ (c : ℕ). known (restarts_by limits history step) (amounts_of limits history step).first c stamp) t
    (subst (λ (b : ℕ). known (restarts_by limits history step) b tick stamp) f
    (subst (λ (a : ℕ). known a first tick stamp) r are)))

-- the end restarts nothing
pub end_restarts : (limits : Limits) (history : List ReceiverStep) → 0 ≡ restarts_by limits history end_told
end_restarts limits history = none (epoch_number limits (buffer_history history))
  where
    none : (n : ℕ) → 0 ≡ n - n
    none n = omega arith

pub jitters_end : (limits : Limits) (history : List ReceiverStep) (j : Jitter) → AreJittersOf j (last_transit limits history) (jitters_of limits history)
    → AreJittersOf j (last_transit limits (end_told ∷ history)) (jitters_of limits (end_told ∷ history))
jitters_end limits history j are =
    jitters_more limits history end_told j 0 0 0 0 (end_restarts limits history) refl refl refl are

-- what a counter keeps after a step is that of the history with it
pub counted_on : (old new : CounterState) (step : ReceiverStep) (history : List ReceiverStep) (amounts : Amounts) (records restarts : ℕ) (playout : Playout)
    → IsCountedAfter old history → new.buffer.limits ≡ old.buffer.limits → new.delay ≡ old.delay
    → IsStateAfter new.buffer (buffer_history (step ∷ history))
    → new.time ≡ max old.time step.tick
    → new.start ≡ Some (unwrap_or old.start step.tick)
    → AreNumbersOf new.numbers (epochs_of old.buffer.limits (buffer_history (step ∷ history)))
    → new.missing ≡ capped (missing_count old.buffer.limits (buffer_history (step ∷ history)))
    → amounts ≡ amounts_by old.buffer.limits history step.link step.tick nothing_passed step.input
    → records ≡ records_in step.input
    → restarts ≡ restarts_by old.buffer.limits history step
    → playout ≡ playout_by old.buffer.limits history step
    → AreJittersOf new.jitter (last_transit old.buffer.limits (step ∷ history)) (jitters_of old.buffer.limits (step ∷ history))
    → IsHistogramOf new.trips (trips_of (step ∷ history))
    → ((entries : List Entry) → AreSeriesOf old.table entries
    → AreSeriesOf new.table (record { second = (new.time - unwrap_or old.start step.tick) / 90000; amounts = with_passed amounts (record { records = records; missing = new.missing - old.missing; restarts = restarts; playout = playout }) } ∷ entries))
    → IsCountedAfter new (step ∷ history)
counted_on old new step history amounts records restarts playout c limits delay state time start numbers missing added counts restarted played jitters samples series =
    let l : Limits = old.buffer.limits in
    let now : new.time ≡ effective_time (step ∷ history) = (let before = c.now in omega (arith, time, before)) in
    let first : unwrap_or old.start step.tick ≡ unwrap_or (start_of history) step.tick = ap (λ (o : Option ℕ). unwrap_or o step.tick) c.first in
    let second : (new.time - unwrap_or old.start step.tick) / 90000 ≡ ticks_of (step ∷ history) / 90000 =
    ap (λ (t : ℕ). (t - unwrap_or old.start step.tick) / 90000) now ∙ ap (λ (s : ℕ). (effective_time (step ∷ history) - s) / 90000) first in
    let rise : new.missing - old.missing ≡ missing_by l history step =
    ap (λ (m : ℕ). m - old.missing) missing ∙ ap (λ (m : ℕ). capped (missing_count l (buffer_history (step ∷ history))) - m) c.passed in
    let passed : Passed = record { records = records; missing = new.missing - old.missing; restarts = restarts; playout = playout } in
    let all : passed ≡ passed_by l history step =
    ap (λ (n : ℕ). record { records = n; missing = new.missing - old.missing; restarts = restarts; playout = playout }) counts
    ∙ ap (λ (n : ℕ). record { records = records_in step.input; missing = n; restarts = restarts; playout = playout }) rise
    ∙ ap (λ (n : ℕ). record { records = records_in step.input; missing = missing_by l history step; restarts = n; playout = playout }) restarted
    ∙ ap (λ (p : Playout). record { records = records_in step.input; missing = missing_by l history step; restarts = restarts_by l history step; playout = p }) played in
    let what : with_passed amounts passed ≡ amounts_of l history step =
    ap (λ (a : Amounts). with_passed a passed) added
    ∙ passed_set l history step.link step.tick passed step.input
    ∙ ap (λ (p : Passed). amounts_by l history step.link step.tick p step.input) all in
    let entry : AreSeriesOf new.table (entries_of l (step ∷ history)) =
    subst (λ (a : Amounts). AreSeriesOf new.table (record { second = ticks_of (step ∷ history) / 90000; amounts = a } ∷ entries_of l history)) what
    (subst (λ (s : ℕ). AreSeriesOf new.table (record { second = s; amounts = with_passed amounts passed } ∷ entries_of l history)) second
    (series (entries_of l history) c.series)) in
    record {
      state = state;
      delay = delay ∙ c.delay ∙ ap (λ (x : Limits). x.playout_delay) (sym limits);
      now = now;
      first = start ∙ ap Some first;
      numbers = subst (λ (x : Limits). AreNumbersOf new.numbers (epochs_of x (buffer_history (step ∷ history)))) (sym limits) numbers;
      passed = subst (λ (x : Limits). new.missing ≡ capped (missing_count x (buffer_history (step ∷ history)))) (sym limits) missing;
      series = subst (λ (x : Limits). AreSeriesOf new.table (entries_of x (step ∷ history))) (sym limits) entry;
      jitters = subst (λ (x : Limits). AreJittersOf new.jitter (last_transit x (step ∷ history)) (jitters_of x (step ∷ history))) (sym limits) jitters;
      samples = samples;
    }

-- ---- what is shown

-- the points of a series are the sums of its amounts
links_same : (links : List SeriesState) (amount : ℕ → Amounts → ℕ) (entries : List Entry) → AreLinksOf links amount entries
    → map shown_points links ≡ links_by amount entries
links_same links amount entries are =
    let sums : ℕ → List ℕ = λ link. sums_by (amount link) entries in
    ext_get_or [] (map shown_points links) (map sums (range_with_len 0 16))
    (length-map links shown_points ∙ are.count ∙ sym (length-map-range_with_len sums 0 16))
    (λ i low.
    let inside : i < 16 = omega (arith, low, length-map links shown_points, are.count) in
    let here : i < length links = omega (arith, inside, are.count) in
    get_or-map shown_points links i nothing [] here
    ∙ shown (slice_index_or links i nothing) (marks_by (amount i) entries) (are.by_link i nothing inside)
    ∙ sym (get_or-map-range_with_len sums 0 16 i i [] inside (omega arith)))
  where
    nothing : SeriesState
    nothing = record { points = []; scale = 0; latest = 0 }

-- the figures that are shown are those of the history
pub figures_same : (limits : Limits) (history : List ReceiverStep) (t : Table) (ticks sent : ℕ) (jitter trips : Spread) → ticks ≡ ticks_of history
    → sent ≡ capped (sent_count limits (buffer_history history)) → jitter ≡ spread_of (jitters_of limits history) → trips ≡ spread_of (trips_of history) → AreSeriesOf t (entries_of limits history)
    → figures_in ticks sent jitter trips t ≡ figures_of limits history
figures_same limits history t ticks sent jitter trips a b j r are =
    let entries : List Entry = entries_of limits history in
    let width : 2 ^ t.kept.scale ≡ width_of (marks_by (λ x. x.kept) entries) = ap (λ (n : ℕ). 2 ^ n) are.of_kept.doubled in
    let links = links_same t.links.items octets_on entries are.of_links in
    let first_links = links_same t.first_links.items first_on entries are.of_first_links in
    let recovered_links = links_same t.recovered_links.items recovered_on entries are.of_recovered_links in
    let kept = shown t.kept (marks_by (λ x. x.kept) entries) are.of_kept in
    let first = shown t.first (marks_by (λ x. x.first) entries) are.of_first in
    let recovered = shown t.recovered (marks_by (λ x. x.recovered) entries) are.of_recovered in
    let missing = shown t.missing (marks_by (λ x. x.passed.missing) entries) are.of_missing in
    let late = shown t.late (marks_by (λ x. x.late) entries) are.of_late in
    let restarts = shown t.restarts (marks_by (λ x. x.passed.restarts) entries) are.of_restarts in
    let fill = shown_peaks t.fill (marks_by (λ x. x.passed.playout.fill) entries) are.of_fill in
    let used = shown_peaks t.used (marks_by used_before entries) are.of_used in
    let later = shown t.later (marks_by (λ x. x.passed.playout.later) entries) are.of_later in
    let earlier = shown t.earlier (marks_by (λ x. x.passed.playout.earlier) entries) are.of_earlier in
    cc

-- one amount more of each link
pub links_added : (old new : List SeriesState) (amount : ℕ → Amounts → ℕ) (entries : List Entry) (second : ℕ) (amounts : Amounts) → length new ≡ length old
    → ((link : ℕ) (d : SeriesState) (marks : List Mark) → link < length old → IsSeriesOf (slice_index_or old link d) marks
    → IsSeriesOf (slice_index_or new link d) (record { second = second; amount = amount link amounts } ∷ marks))
    → AreLinksOf old amount entries → AreLinksOf new amount (record { second = second; amounts = amounts } ∷ entries)
links_added old new amount entries second amounts count each are = record {
  count = count ∙ are.count;
  by_link = λ link d low. each link d (marks_by (amount link) entries) (omega (arith, low, are.count)) (are.by_link link d low);
}

-- ---- the series of links

-- one more link has its octets
pub links_more : (was now next : List SeriesState) (i : ℕ) (mark : ℕ → Mark)
    → ((w : ℕ) (d : SeriesState) (marks : List Mark) → w < i → IsSeriesOf (slice_index_or was w d) marks → IsSeriesOf (slice_index_or now w d) (mark w ∷ marks))
    → ((w : ℕ) (d : SeriesState) → i ≤ w → slice_index_or now w d ≡ slice_index_or was w d)
    → ((d : SeriesState) (marks : List Mark) → IsSeriesOf (slice_index_or now i d) marks → IsSeriesOf (slice_index_or next i d) (mark i ∷ marks))
    → ((w : ℕ) (d : SeriesState) → w ≢ i → slice_index_or next w d ≡ slice_index_or now w d)
    → (w : ℕ) (d : SeriesState) (marks : List Mark) → w < i + 1 → IsSeriesOf (slice_index_or was w d) marks → IsSeriesOf (slice_index_or next w d) (mark w ∷ marks)
links_more was now next i mark done rest added others w d marks low is = elim (cases_eq w i) [
  | inl same ↦
      subst (λ (v : ℕ). IsSeriesOf (slice_index_or next v d) (mark v ∷ marks)) (sym same)
      (added d marks (subst (λ (s : SeriesState). IsSeriesOf s marks) (sym (rest i d (omega arith))) (subst (λ (v : ℕ). IsSeriesOf (slice_index_or was v d) marks) same is)))
  | inr other ↦ subst (λ (s : SeriesState). IsSeriesOf s (mark w ∷ marks)) (sym (others w d other)) (done w d marks (omega (arith, low, other)) is)
]

-- a link more has nothing yet
pub links_pushed : (xs : List SeriesState) (x : SeriesState) (n : ℕ) → length xs ≡ n → ((w : ℕ) (d : SeriesState) → w < n → IsSeriesOf (slice_index_or xs w d) []) → IsSeriesOf x []
    → (w : ℕ) (d : SeriesState) → w < n + 1 → IsSeriesOf (slice_index_or (xs ++ x ∷ []) w d) []
links_pushed xs x n count each is w d low = elim (cases_eq w n) [
  | inl same ↦
      let none : n - n ≡ 0 = omega arith in
      subst (λ (s : SeriesState). IsSeriesOf s []) (sym (ap (λ (v : ℕ). slice_index_or (xs ++ x ∷ []) v d) same ∙ get_or-append_right xs (x ∷ []) n n d count (omega arith) ∙ ap (λ (v : ℕ). slice_index_or (x ∷ []) v d) none)) is
  | inr other ↦
      let inside : w < n = omega (arith, low, other) in
      subst (λ (s : SeriesState). IsSeriesOf s []) (sym (get_or_append_left xs (x ∷ []) d w (omega (arith, inside, count)))) (each w d inside)
]
