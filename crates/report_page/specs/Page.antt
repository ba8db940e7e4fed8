-- The page of a session's figures: a table of what it came to in all, and a chart of each figure over time.
use Rattle.std.specs.Prelude.{◌≡◌, ℕ, zero, suc, ◌+◌, ◌*◌, ◌/◌, List, [], ◌∷◌, length, slice_index_or, codes, ◌==◌}
use Rattle.std.specs.Prelude.{if◌then◌else◌}
use Rattle.link_channels.specs.declared.bounds.TheConstants.{MAX_LINKS}
use Rattle.session_figures.specs.declared.table.Table.{Table}
use Rattle.time_series.specs.Points.{capped}
use Rattle.value_histogram.specs.declared.spread.Spread.{Spread}
use Rattle.html_parts.specs.Page.{with_head, with_row, with_tenths_row, with_columns, with_numbers, with_note}
use Rattle.html_parts.specs.Page.{with_table_end, with_foot}
use Rattle.html_parts.specs.Chart.{greatest_of, total_of, with_title, with_numbered_title, with_chart}
use Rattle.session_figures.specs.Figures.{Figures}

-- kilobits in a second, rounded down, of octets that came in ticks of 1/90,000 s; 0 where no time has passed
abbrev pub rate_of : ℕ → ℕ → ℕ
rate_of octets ticks = capped (720 * octets) / ticks

-- what a manager asks first: how long it took, and what was sent
abbrev pub with_sent_rows : List ℕ → Figures → List ℕ
with_sent_rows text f =
    with_row (with_row (with_row (with_row text
    (codes "Length") (f.ticks / 90000) (codes "s") (codes "from the first record to the last"))
    (codes "Rate") (rate_of (total_of f.kept) f.ticks) (codes "kbit/s") (codes "octets written, over the length"))
    (codes "Written") (total_of f.kept) (codes "octets") (codes "payloads kept, null packets restored"))
    (codes "Sent") f.sent (codes "packets") (codes "numbers from the lowest kept to the highest, flow by flow")

-- a row of how many packets some points count
abbrev pub with_packets : List ℕ → List ℕ → List ℕ → List ℕ → List ℕ
with_packets text name points rule = with_row text name (total_of points) (codes "packets") rule

-- what became of it
abbrev pub with_came_rows : List ℕ → Figures → List ℕ
with_came_rows text f =
    with_packets (with_packets (with_packets text
    (codes "First time") f.first (codes "kept, and no retransmission"))
    (codes "Recovered") f.recovered (codes "kept, and a retransmission"))
    (codes "Never written") f.missing (codes "numbers passed without a packet")

-- how the jitter of packets is spread
abbrev pub with_jitter_rows : List ℕ → Spread → List ℕ
with_jitter_rows text jitter =
    with_tenths_row (with_tenths_row (with_tenths_row text
    (codes "Jitter, least") jitter.least (codes "ms")
    (codes "time between two first-time packets, against that between their timestamps"))
    (codes "Jitter, median") jitter.median (codes "ms") (codes "at most half are greater"))
    (codes "Jitter, 99%") jitter.high (codes "ms") (codes "at most one in a hundred is greater")

-- how round-trip times are spread, if there is any
abbrev pub with_trip_rows : List ℕ → Spread → List ℕ
with_trip_rows text trips =
    if trips.count == 0 then text
    else with_row (with_row (with_row (with_row text
    (codes "Round trips") trips.count (codes "samples") (codes "responses to requests of at most ten seconds before"))
    (codes "Round trip, least") trips.least (codes "ms")
    (codes "from the moment in the response to its coming, less its delay"))
    (codes "Round trip, median") trips.median (codes "ms") (codes "at most half are greater"))
    (codes "Round trip, most") trips.greatest (codes "ms") (codes "none is greater")

-- the playout buffer
abbrev pub with_buffer_rows : List ℕ → Figures → List ℕ
with_buffer_rows text f =
    with_row (with_row text
    (codes "Buffer, most") (greatest_of f.fill) (codes "ms")
    (codes "how far ahead the packet with the highest number was due"))
    (codes "Delay used, most") (greatest_of f.used) (codes "ms")
    (codes "of the playout delay: what the buffer lacked of it before a packet that was kept")

-- a row of what some points sum up to, if any of them isn't 0
abbrev pub with_some_row : List ℕ → List ℕ → List ℕ → List ℕ → List ℕ → List ℕ
with_some_row text name points unit rule =
    if total_of points == 0 then text else with_row text name (total_of points) unit rule

-- how the base of deadlines drifted, if it moved
abbrev pub with_drift_rows : List ℕ → Figures → List ℕ
with_drift_rows text f =
    with_some_row (with_some_row text
    (codes "Drift to later") f.later (codes "ticks")
    (codes "of 1/90,000 s: deadlines moved so, as where the sender's clock is slow"))
    (codes "Drift to earlier") f.earlier (codes "ticks") (codes "of 1/90,000 s: as where it is fast")

-- what came in vain, how often the flow restarted, and how wide a bucket of the charts is
abbrev pub with_last_rows : List ℕ → Figures → List ℕ
with_last_rows text f =
    with_row (with_row (with_packets text
    (codes "Late") f.late (codes "came after their deadline or the playout"))
    (codes "Restarts") (total_of f.restarts) (codes "restarts") (codes "another flow took the place of the one before"))
    (codes "Bucket") f.width (codes "s") (codes "of the charts below: 1 s, doubled until 4,096 are enough")

-- the table of all that
abbrev pub with_table : List ℕ → Figures → List ℕ
with_table text f =
    with_table_end (with_last_rows (with_drift_rows (with_buffer_rows (with_trip_rows (with_jitter_rows
    (with_came_rows (with_sent_rows text f) f) f.jitter) f.trips) f) f) f)

-- ---- links

-- a table has three series for each link that there may be
pub record HasAllLinks (t : Table) : Type 0 where
  pub octets : length t.links.items ≡ MAX_LINKS
  pub first : length t.first_links.items ≡ MAX_LINKS
  pub recovered : length t.recovered_links.items ≡ MAX_LINKS

-- the sum of a link's points, and 0 where there are none
abbrev pub total_on : ℕ → List (List ℕ) → ℕ
total_on link links = total_of (slice_index_or links link [])

-- the row of a link, if any octet came on it: its place, its octets, and its packets that were received first time and
-- that were recovered
abbrev pub with_link_row : List ℕ → ℕ → ℕ → ℕ → ℕ → List ℕ
with_link_row text link octets first recovered =
    if octets == 0 then text else with_numbers text link octets first recovered

-- the rows of so many links, from 0 on
unfoldable pub with_link_rows : List ℕ → ℕ → List (List ℕ) → List (List ℕ) → List (List ℕ) → List ℕ
with_link_rows text zero links firsts recovered = text
with_link_rows text (suc link) links firsts recovered =
    with_link_row (with_link_rows text link links firsts recovered) link (total_on link links) (total_on link firsts)
    (total_on link recovered)

-- how the charts are to be read, in a session of so many ticks
abbrev pub with_reading : List ℕ → ℕ → List ℕ
with_reading text ticks =
    with_note text (codes "Each chart runs from 0 s to the end after ") (ticks / 90000)
    (codes " s, and its lower edge is 0. Its last bucket is cut short by the end.")

-- the table of links, and that
abbrev pub with_link_table : List ℕ → ℕ → List (List ℕ) → List (List ℕ) → List (List ℕ) → List ℕ
with_link_table text ticks links firsts recovered =
    with_reading (with_table_end (with_link_rows
    (with_columns text (codes "Link") (codes "Octets") (codes "First time") (codes "Recovered"))
    MAX_LINKS links firsts recovered)) ticks

-- ---- charts

-- a chart with its title
abbrev pub with_titled_chart : List ℕ → List ℕ → List ℕ → ℕ → List ℕ → List ℕ
with_titled_chart text name unit width points = with_chart (with_title text name) unit width points

-- what was written over time, and how it came
abbrev pub with_came_charts : List ℕ → Figures → List ℕ
with_came_charts text f =
    with_titled_chart (with_titled_chart (with_titled_chart text
    (codes "Written") (codes "octets") f.width f.kept)
    (codes "First time") (codes "packets") f.width f.first)
    (codes "Recovered") (codes "packets") f.width f.recovered

-- the same, if any of its points isn't 0
abbrev pub with_some_chart : List ℕ → List ℕ → List ℕ → ℕ → List ℕ → List ℕ
with_some_chart text name unit width points =
    if total_of points == 0 then text else with_titled_chart text name unit width points

-- what was not, what came in vain, and restarts, if there was any
abbrev pub with_lost_charts : List ℕ → Figures → List ℕ
with_lost_charts text f =
    with_some_chart (with_titled_chart (with_titled_chart text
    (codes "Never written") (codes "packets") f.width f.missing)
    (codes "Late") (codes "packets") f.width f.late)
    (codes "Restarts") (codes "restarts") f.width f.restarts

-- the playout buffer
abbrev pub with_buffer_charts : List ℕ → Figures → List ℕ
with_buffer_charts text f =
    with_titled_chart (with_titled_chart text
    (codes "Buffer") (codes "ms") f.width f.fill)
    (codes "Delay used") (codes "ms") f.width f.used

-- where the base of deadlines moved, if it did
abbrev pub with_drift_charts : List ℕ → Figures → List ℕ
with_drift_charts text f =
    with_some_chart (with_some_chart text
    (codes "Drift to later") (codes "ticks") f.width f.later)
    (codes "Drift to earlier") (codes "ticks") f.width f.earlier

-- an amount that came on a link, if any did: under a name and the link's place
abbrev pub with_link : List ℕ → List ℕ → List ℕ → ℕ → ℕ → List ℕ → List ℕ
with_link text name unit width link points =
    if total_of points == 0 then text else with_chart (with_numbered_title text name link) unit width points

-- those of links from this one on
abbrev pub with_links : List ℕ → List ℕ → List ℕ → ℕ → ℕ → List (List ℕ) → List ℕ
with_links text name unit width link [] = text
with_links text name unit width link (points ∷ links) =
    with_links (with_link text name unit width link points) name unit width (link + 1) links

-- the octets that came on links, the packets that were received first time on each, and those that were recovered
abbrev pub with_link_charts : List ℕ → Figures → List ℕ
with_link_charts text f =
    with_links (with_links (with_links text
    (codes "Link ") (codes "octets") f.width 0 f.links)
    (codes "First time, link ") (codes "packets") f.width 0 f.first_links)
    (codes "Recovered, link ") (codes "packets") f.width 0 f.recovered_links

-- the page up to where the charts of links begin
abbrev pub front_of : Figures → List ℕ
front_of f =
    with_drift_charts (with_buffer_charts (with_lost_charts (with_came_charts (with_link_table (with_table
    (with_head []) f) f.ticks f.links f.first_links f.recovered_links) f) f) f) f

-- the page
abbrev pub page_of : Figures → List ℕ
page_of f = with_foot (with_link_charts (front_of f) f)
