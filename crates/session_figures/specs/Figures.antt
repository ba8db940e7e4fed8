-- The figures of a session, over the history of a receiver's steps, the newest first.
use Rattle.std.specs.Prelude.{ℕ, ◌-◌, ◌/◌, List, [], ◌∷◌, map, Option, None, Some}
use Rattle.std.specs.Option.{unwrap_or}
use Rattle.std.specs.List.{range_with_len, sum}
use Rattle.link_channels.specs.declared.bounds.TheConstants.{MAX_LINKS}
use Rattle.time_series.specs.Points.{Mark, capped, points_of, width_of}
use Rattle.time_series.specs.Peaks.{peaks_of}
use Rattle.value_histogram.specs.declared.spread.Spread.{Spread}
use Rattle.value_histogram.specs.Ranks.{spread_of}
use Rattle.receiver_rules.specs.declared.limits.Limits.{Limits}
use Rattle.request_rules.specs.Steps.{Step, buffer_history, effective_time}
use Rattle.session_figures.specs.declared.amounts.Amounts.{Amounts}
use Rattle.rist_ends.specs.Numbers.{sent_count}
use Rattle.session_figures.specs.Amounts.{amounts_of, first_on, octets_on, recovered_on, used_before}
use Rattle.session_figures.specs.Spreads.{jitters_of, trips_of}

-- ---- time

-- the tick of the first step
abbrev pub start_of : List Step → Option ℕ
start_of [] = None
start_of (step ∷ before) = Some (unwrap_or (start_of before) step.tick)

-- how many ticks of 1/90,000 s lie between the first step and the effective time of the last
abbrev pub ticks_of : List Step → ℕ
ticks_of history = effective_time history - unwrap_or (start_of history) 0

-- ---- over time

-- what a step added, and the second in which it was made, from the first step on
pub record Entry : Type 0 where
  pub second : ℕ
  pub amounts : Amounts

-- what each step of a history added
abbrev pub entries_of : Limits → List Step → List Entry
entries_of limits [] = []
entries_of limits (step ∷ before) =
    record { second = ticks_of (step ∷ before) / 90000; amounts = amounts_of limits before step }
    ∷ entries_of limits before

-- one of the amounts, over time
abbrev pub marks_by : (Amounts → ℕ) → List Entry → List Mark
marks_by amount entries = map (λ entry. record { second = entry.second; amount = amount entry.amounts }) entries

-- ---- in all

-- how many packets of a history were received first time
abbrev pub first_count : Limits → List Step → ℕ
first_count limits history = sum (map (λ entry. entry.amounts.first) (entries_of limits history))

-- how many a retransmission recovered
abbrev pub recovered_count : Limits → List Step → ℕ
recovered_count limits history = sum (map (λ entry. entry.amounts.recovered) (entries_of limits history))

-- ---- the figures

-- how long it took, in ticks of 1/90,000 s; how many packets were sent; how jitter is spread, in tenths of a
-- millisecond, and how round-trip times are, in milliseconds; how many seconds wide a bucket is; and in each bucket:
-- the octets of payloads that came on each link, the packets that were received first time on each and those that a
-- retransmission on each recovered, the octets of packets that were kept, the packets that were received first time
-- and those that a retransmission recovered, the numbers that the playout passed without a packet, the packets that
-- came too late, and how often the flow restarted; the greatest fill of the buffer after a step, and the most of the
-- playout delay that was used up before a packet that was kept, in milliseconds; and by how many ticks the base of
-- deadlines moved to later, and to earlier
pub record Figures : Type 0 where
  pub ticks : ℕ
  pub sent : ℕ
  pub jitter : Spread
  pub trips : Spread
  pub width : ℕ
  pub links : List (List ℕ)
  pub first_links : List (List ℕ)
  pub recovered_links : List (List ℕ)
  pub kept : List ℕ
  pub first : List ℕ
  pub recovered : List ℕ
  pub missing : List ℕ
  pub late : List ℕ
  pub restarts : List ℕ
  pub fill : List ℕ
  pub used : List ℕ
  pub later : List ℕ
  pub earlier : List ℕ

-- the sums of one amount in each bucket
abbrev pub sums_by : (Amounts → ℕ) → List Entry → List ℕ
sums_by amount entries = points_of (marks_by amount entries)

-- the greatest of one amount in each bucket
abbrev pub peaks_by : (Amounts → ℕ) → List Entry → List ℕ
peaks_by amount entries = peaks_of (marks_by amount entries)

-- the sums of one amount of each link
abbrev pub links_by : (ℕ → Amounts → ℕ) → List Entry → List (List ℕ)
links_by amount entries = map (λ link. sums_by (amount link) entries) (range_with_len 0 MAX_LINKS)

-- the figures of what steps added
abbrev pub figures_by : ℕ → ℕ → Spread → Spread → List Entry → Figures
figures_by ticks sent jitter trips entries =
    record {
      ticks = ticks;
      sent = sent;
      jitter = jitter;
      trips = trips;
      width = width_of (marks_by (λ a. a.kept) entries);
      links = links_by octets_on entries;
      first_links = links_by first_on entries;
      recovered_links = links_by recovered_on entries;
      kept = sums_by (λ a. a.kept) entries;
      first = sums_by (λ a. a.first) entries;
      recovered = sums_by (λ a. a.recovered) entries;
      missing = sums_by (λ a. a.passed.missing) entries;
      late = sums_by (λ a. a.late) entries;
      restarts = sums_by (λ a. a.passed.restarts) entries;
      fill = peaks_by (λ a. a.passed.playout.fill) entries;
      used = peaks_by used_before entries;
      later = sums_by (λ a. a.passed.playout.later) entries;
      earlier = sums_by (λ a. a.passed.playout.earlier) entries;
    }

-- the figures of a history
abbrev pub figures_of : Limits → List Step → Figures
figures_of limits history =
    figures_by (ticks_of history) (capped (sent_count limits (buffer_history history)))
    (spread_of (jitters_of limits history)) (spread_of (trips_of history)) (entries_of limits history)
