-- What a contract sees of the counting of figures.
use Rattle.std.specs.Prelude.{◌≡◌, ℕ, ◌<◌, ◌^◌, List, [], ◌∷◌, length, map, Option, slice_index_or}
use Rattle.link_channels.specs.declared.bounds.TheConstants.{MAX_LINKS}
use Rattle.time_series.specs.Points.{SeriesState, IsSeriesOf, capped, shown_points}
use Rattle.time_series.specs.Peaks.{IsPeaksOf}
use Rattle.receiver_rules.specs.Epochs.{epochs_of}
use Rattle.reorder_buffer.specs.State.{State}
use Rattle.reorder_buffer.specs.StateAfter.{IsStateAfter}
use Rattle.reorder_buffer.specs.declared.phase.Phase.TheVariants.{Open}
use Rattle.request_rules.specs.Steps.{Step, End, buffer_history, effective_time}
use Rattle.value_histogram.specs.declared.spread.Spread.{Spread}
use Rattle.value_histogram.specs.Ranks.{HistogramState, IsHistogramOf}
use Rattle.rist_ends.specs.declared.numbers.Numbers.{Numbers}
use Rattle.rist_ends.specs.Numbers.{AreNumbersOf, missing_count}
use Rattle.session_figures.specs.declared.figures.Figures.{Figures as Shown}
use Rattle.session_figures.specs.declared.jitter.Jitter.{Jitter}
use Rattle.session_figures.specs.declared.table.Table.{Table}
use Rattle.session_figures.specs.Amounts.{first_on, octets_on, recovered_on, used_before}
use Rattle.session_figures.specs.Spreads.{jitters_of, last_transit, trips_of}
use Rattle.session_figures.specs.declared.amounts.Amounts.{Amounts}
use Rattle.session_figures.specs.Figures.{Entry, Figures, marks_by, entries_of, start_of}

-- there is a series for each link, each of one amount
pub record AreLinksOf (links : List SeriesState) (amount : ℕ → Amounts → ℕ) (entries : List Entry) : Type 0 where
  pub count : length links ≡ MAX_LINKS
  pub by_link : (link : ℕ) (d : SeriesState) → link < MAX_LINKS
      → IsSeriesOf (slice_index_or links link d) (marks_by (amount link) entries)

-- each series of a table has what these steps added
pub record AreSeriesOf (t : Table) (entries : List Entry) : Type 0 where
  pub of_links : AreLinksOf t.links.items octets_on entries
  pub of_first_links : AreLinksOf t.first_links.items first_on entries
  pub of_recovered_links : AreLinksOf t.recovered_links.items recovered_on entries
  pub of_kept : IsSeriesOf t.kept (marks_by (λ a. a.kept) entries)
  pub of_first : IsSeriesOf t.first (marks_by (λ a. a.first) entries)
  pub of_recovered : IsSeriesOf t.recovered (marks_by (λ a. a.recovered) entries)
  pub of_missing : IsSeriesOf t.missing (marks_by (λ a. a.passed.missing) entries)
  pub of_late : IsSeriesOf t.late (marks_by (λ a. a.late) entries)
  pub of_restarts : IsSeriesOf t.restarts (marks_by (λ a. a.passed.restarts) entries)
  pub of_fill : IsPeaksOf t.fill (marks_by (λ a. a.passed.playout.fill) entries)
  pub of_used : IsPeaksOf t.used (marks_by used_before entries)
  pub of_later : IsSeriesOf t.later (marks_by (λ a. a.passed.playout.later) entries)
  pub of_earlier : IsSeriesOf t.earlier (marks_by (λ a. a.passed.playout.earlier) entries)

-- what is kept of jitter: the transit that the next packet's is held against, and how often each value came
pub record AreJittersOf (j : Jitter) (transit : Option ℕ) (jitters : List ℕ) : Type 0 where
  pub last : j.last ≡ transit
  pub values : IsHistogramOf j.values jitters

-- a buffer, its playout delay, the effective time of the last step, the tick of the first, what is kept of numbers, how
-- many numbers the playout has passed without a packet, the series, what is kept of jitter, and of round-trip times
pub record CounterState : Type 0 where
  pub buffer : State
  pub delay : ℕ
  pub time : ℕ
  pub start : Option ℕ
  pub numbers : Numbers
  pub missing : ℕ
  pub table : Table
  pub jitter : Jitter
  pub trips : HistogramState

-- its time is its buffer's
pub record IsInTime (b : State) (time : ℕ) : Type 0 where
  pub clock : b.phase ≡ Open → b.time ≡ time
  pub tick : time < 2 ^ 61

-- the step of the end, which moves no time
abbrev pub end_told : Step
end_told = record { link = 0; tick = 0; input = End }

-- what it keeps is that of a history, whose end may have come
pub record IsCountedAfter (c : CounterState) (history : List Step) : Type 0 where
  pub state : IsStateAfter c.buffer (buffer_history history)
  pub delay : c.delay ≡ c.buffer.limits.playout_delay
  pub now : c.time ≡ effective_time history
  pub first : c.start ≡ start_of history
  pub numbers : AreNumbersOf c.numbers (epochs_of c.buffer.limits (buffer_history history))
  pub passed : c.missing ≡ capped (missing_count c.buffer.limits (buffer_history history))
  pub series : AreSeriesOf c.table (entries_of c.buffer.limits history)
  pub jitters : AreJittersOf c.jitter (last_transit c.buffer.limits history) (jitters_of c.buffer.limits history)
  pub samples : IsHistogramOf c.trips (trips_of history)

-- the figures that a table shows
abbrev pub figures_in : ℕ → ℕ → Spread → Spread → Table → Figures
figures_in ticks sent jitter trips t =
    record {
      ticks = ticks;
      sent = sent;
      jitter = jitter;
      trips = trips;
      width = 2 ^ t.kept.scale;
      links = map shown_points t.links.items;
      first_links = map shown_points t.first_links.items;
      recovered_links = map shown_points t.recovered_links.items;
      kept = shown_points t.kept;
      first = shown_points t.first;
      recovered = shown_points t.recovered;
      missing = shown_points t.missing;
      late = shown_points t.late;
      restarts = shown_points t.restarts;
      fill = shown_points t.fill;
      used = shown_points t.used;
      later = shown_points t.later;
      earlier = shown_points t.earlier;
    }

-- the figures that are shown
abbrev pub figures_seen : Shown → Figures
figures_seen f = figures_in f.ticks f.sent f.jitter f.trips f.table.now
