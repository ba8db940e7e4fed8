-- What one step leaves of the entries of the links.
use Rattle.std.specs.Prelude.{ℕ, List, Option, None, Some, slice_set, if◌then◌else◌}
use Rattle.rist_rtt.specs.Echo.{EchoOf}
use Rattle.rist_rtt.specs.Smoothed.{smoothed}
use Rattle.request_rules.specs.Steps.{sample_at}
use Rattle.link_channels.specs.Intervals.{has_passed_since}
use Rattle.rist_reporter.specs.Links.{entry_at}

-- a tick of a link is noted where the interval has passed
abbrev pub noted : ℕ → ℕ → ℕ → List (Option ℕ) → List (Option ℕ)
noted interval at link entries =
    if has_passed_since interval at (entry_at entries link) then slice_set entries link (Some at) else entries

-- the smoothed time with a sample, if there is one
abbrev pub with_sample : Option ℕ → Option ℕ → Option ℕ
with_sample rtt None = rtt
with_sample rtt (Some sample) = smoothed rtt sample

-- a link's response that came at a moment in microseconds
abbrev pub sampled : ℕ → ℕ → EchoOf → List (Option ℕ) → List (Option ℕ)
sampled link us response rtts = slice_set rtts link (with_sample (entry_at rtts link) (sample_at us (Some response)))
