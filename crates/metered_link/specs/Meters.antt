-- What is counted of a link, and when it is told (this profile).
use Rattle.std.specs.Prelude.{ℕ, ◌+◌, ◌-◌, ◌^◌, min, nat_le, if◌then◌else◌, Option, None, Some, Result}
use Rattle.std.specs.Prelude.{Ok, Err, Bool, true, false, ◌==◌, ◌&&◌}
use Rattle.outside_net.specs.declared.link.Got.{Got}
use Rattle.outside_net.specs.declared.link.Got.TheVariants as got
use Rattle.metered_link.specs.declared.meter.LinkTotals.{LinkTotals}
use Rattle.metered_link.specs.declared.meter.Event.{Event}
use Rattle.metered_link.specs.declared.meter.Event.TheVariants as events
use Rattle.metered_link.specs.declared.meter.Telling.{Telling}
use Rattle.metered_link.specs.declared.meter.Meter.{Meter}

-- a count of 64 bits and some more
abbrev pub more : ℕ → ℕ → ℕ
more count n = min (count + n) (2 ^ 64 - 1)

-- the totals after a read at a moment
abbrev pub counted : ℕ → Got → LinkTotals → LinkTotals
counted us (got.Datagram channel octets) t =
    record t { us = us; datagrams = more t.datagrams 1; octets = more t.octets octets }
counted us got.Quiet t = record t { us = us }
counted us got.End t = record t { us = us }
counted us got.Failed t = record t { us = us; failed = more t.failed 1 }

-- after a datagram that was none of the session
abbrev pub refused : LinkTotals → LinkTotals
refused t = record t { refused = more t.refused 1 }

-- after a write
abbrev pub written : {E : Type 0} → Result Bool E → LinkTotals → LinkTotals
written (Ok true) t = record t { written = more t.written 1 }
written (Ok false) t = t
written (Err e) t = record t { failed = more t.failed 1 }

-- after a line that couldn't be told
abbrev pub dropped : LinkTotals → LinkTotals
dropped t = record t { dropped = more t.dropped 1 }

-- nothing was counted
abbrev pub no_totals : LinkTotals
no_totals = record { us = 0; datagrams = 0; octets = 0; refused = 0; written = 0; failed = 0; dropped = 0 }

-- nothing was counted or told, and nothing came
abbrev pub new_meter : ℕ → Meter
new_meter every = record { every = every; totals = no_totals; told = no_totals; heard = None }

-- a meter by what its totals come to: all else stays
abbrev pub with_totals : (LinkTotals → LinkTotals) → Meter → Meter
with_totals after m = record m { totals = after m.totals }

-- after so many microseconds without a datagram a link is down
abbrev pub silence : ℕ
silence = 2000000

-- the interval since the last line has passed
abbrev pub at_interval : Meter → ℕ → Option Event
at_interval m us = if nat_le m.every (us - m.told.us) then Some events.Interval else None

-- a link that was up is down where nothing came for so long
abbrev pub at_quiet : Meter → ℕ → Option ℕ → Option Event
at_quiet m us None = at_interval m us
at_quiet m us (Some heard) = if nat_le silence (us - heard) then Some events.Down else at_interval m us

-- a link is up with its first datagram, or the first after a silence
abbrev pub at_datagram : Meter → ℕ → Option ℕ → Option Event
at_datagram m us None = Some events.Up
at_datagram m us (Some heard) = at_interval m us

-- why something is told at a read, if it is
abbrev pub event_at : Meter → ℕ → Got → Option Event
event_at m us (got.Datagram channel octets) = at_datagram m us m.heard
event_at m us got.Quiet = at_quiet m us m.heard
event_at m us got.End = at_quiet m us m.heard
event_at m us got.Failed = at_quiet m us m.heard

-- the moment of the last datagram, until the link is down
abbrev pub heard_until : Option Event → Option ℕ → Option ℕ
heard_until None heard = heard
heard_until (Some events.Interval) heard = heard
heard_until (Some events.Up) heard = heard
heard_until (Some events.Down) heard = None

-- the moment of the last datagram, after a read that came to this at a moment
abbrev pub heard_after : ℕ → Got → Option Event → Option ℕ → Option ℕ
heard_after us (got.Datagram channel octets) event heard = Some us
heard_after us got.Quiet event heard = heard_until event heard
heard_after us got.End event heard = heard_until event heard
heard_after us got.Failed event heard = heard_until event heard

-- what is told: why, and the totals since the time before
abbrev pub telling_of : Option Event → LinkTotals → LinkTotals → Option Telling
telling_of None since totals = None
telling_of (Some event) since totals = Some (record { event = event; since = since; totals = totals })

-- what was told last
abbrev pub told_after : Option Telling → LinkTotals → LinkTotals
told_after None told = told
told_after (Some telling) told = telling.totals

-- what is told of a read that came to this at a moment, if anything is
abbrev pub telling_at : ℕ → Got → Meter → Option Telling
telling_at us got m = telling_of (event_at m us got) m.told (counted us got m.totals)

-- and the meter then
abbrev pub meter_after : ℕ → Got → Meter → Meter
meter_after us got m = record {
  every = m.every;
  totals = counted us got m.totals;
  told = told_after (telling_at us got m) m.told;
  heard = heard_after us got (event_at m us got) m.heard;
}

-- the receiver's figures are due where the interval since the last ones has passed, on the link at place 0
abbrev pub wants_figures : ℕ → ℕ → ℕ → ℕ → Bool
wants_figures place every last us = place == 0 && nat_le every (us - last)
