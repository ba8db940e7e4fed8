-- When a receiver reports, and when it says that it is there (this profile): each link by ticks of its own.
use Rattle.std.specs.Prelude.{ℕ, List, [], ◌∷◌, Bool, true, false, ◌&&◌, ◌==◌, if◌then◌else◌}
use Rattle.link_channels.specs.Intervals.{report_interval, keepalive_interval}
use Rattle.request_rules.specs.Steps.{Input, Media, Control, Keepalive, Refused, Tick, End, Step, effective_time}
use Rattle.request_rules.specs.Requests.{has_passed}

-- a tick of the receiver's clock
abbrev pub is_tick : Input → Bool
is_tick (Media arrival) = false
is_tick (Control sample request) = false
is_tick Keepalive = false
is_tick Refused = false
is_tick (Tick micros) = true
is_tick End = false

-- a tick on this link
abbrev pub is_tick_on : ℕ → Step → Bool
is_tick_on link step = step.link == link && is_tick step.input

-- the times of a link's ticks at which the interval has passed since the last such time, the newest first
abbrev pub times_each : ℕ → ℕ → List Step → List ℕ
times_each interval link [] = []
times_each interval link (step ∷ before) =
    if is_tick_on link step && has_passed interval (effective_time (step ∷ before)) (times_each interval link before)
    then effective_time (step ∷ before) ∷ times_each interval link before
    else times_each interval link before

-- a report is due on a link at a time: so long has passed since its last one, or it had none
abbrev pub is_report_due : ℕ → List Step → ℕ → Bool
is_report_due link before t = has_passed report_interval t (times_each report_interval link before)

-- a keepalive is due, likewise
abbrev pub is_keepalive_due : ℕ → List Step → ℕ → Bool
is_keepalive_due link before t = has_passed keepalive_interval t (times_each keepalive_interval link before)
