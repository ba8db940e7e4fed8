-- The smoothed round-trip time of a link, in microseconds (this profile).
use Rattle.std.specs.Prelude.{ℕ, ◌+◌, ◌-◌, ◌*◌, ◌/◌, ◌<◌, ◌⊎◌, Option, Some, None}

-- a response whose stamp lies ahead, or more than 10 s back
abbrev pub IsStale : ℕ → ℕ → Type 0
IsStale now stamp = (now < stamp) ⊎ (10000000 < now - stamp)

-- what a response says of the way there and back; 0 where its delay is more than that
abbrev pub sample_of : ℕ → ℕ → ℕ → ℕ
sample_of now stamp delay = now - stamp - delay

-- the first sample, and then an eighth of each one
abbrev pub smoothed : Option ℕ → ℕ → Option ℕ
smoothed None sample = Some sample
smoothed (Some rtt) sample = Some ((7 * rtt + sample) / 8)
