-- When something is due on a link again.
use Rattle.std.specs.Prelude.{ℕ, ◌+◌, Bool, true, nat_le, Option, None, Some}

-- so many ticks have passed since a time, if there is one
abbrev pub has_passed_since : ℕ → ℕ → Option ℕ → Bool
has_passed_since interval t None = true
has_passed_since interval t (Some last) = nat_le (last + interval) t

-- from one report of a link to its next: 100 ms, in ticks of 1/90,000 s (RFC 3550, section 6.2; the value is this
-- profile's)
abbrev pub report_interval : ℕ
report_interval = 9000

-- from one keepalive of a link to its next: a second (this profile)
abbrev pub keepalive_interval : ℕ
keepalive_interval = 90000
