-- What a receiver keeps of its links, against the history that it stands for.
use Rattle.std.specs.Prelude.{◌≡◌, ℕ, zero, suc, ◌<◌, List, length, slice_get, slice_index_or, Option, None}
use Rattle.link_channels.specs.declared.bounds.TheConstants.{MAX_LINKS}
use Rattle.request_rules.specs.Steps.{Step, rtt_of, longer}
use Rattle.link_channels.specs.Intervals.{report_interval}
use Rattle.link_channels.specs.Intervals.{keepalive_interval}
use Rattle.rist_reporter.specs.When.{times_each}

-- of each of sixteen links the smoothed round-trip time in microseconds, and when it reported last and said last that
-- it is there, in ticks
pub record LinksState : Type 0 where
  pub rtts : List (Option ℕ)
  pub reports : List (Option ℕ)
  pub keepalives : List (Option ℕ)

-- the newest of some times
abbrev pub newest : List ℕ → Option ℕ
newest times = slice_get times 0

-- the entry of a link
abbrev pub entry_at : List (Option ℕ) → ℕ → Option ℕ
entry_at entries link = slice_index_or entries link None

-- there are sixteen entries
pub record HasEntries (l : LinksState) : Type 0 where
  pub rtts : length l.rtts ≡ 16
  pub reports : length l.reports ≡ 16
  pub keepalives : length l.keepalives ≡ 16

-- they are those of the history
pub record AreLinksAfter (l : LinksState) (history : List Step) : Type 0 where
  pub sixteen : HasEntries l
  pub rtts : (link : ℕ) → link < MAX_LINKS → entry_at l.rtts link ≡ rtt_of link history
  pub reports : (link : ℕ) → link < MAX_LINKS
      → entry_at l.reports link ≡ newest (times_each report_interval link history)
  pub keepalives : (link : ℕ) → link < MAX_LINKS
      → entry_at l.keepalives link ≡ newest (times_each keepalive_interval link history)

-- the greatest round-trip time of so many links from 0 on
abbrev pub longest_of : ℕ → List (Option ℕ) → ℕ
longest_of zero rtts = 0
longest_of (suc links) rtts = longer (entry_at rtts links) (longest_of links rtts)
