-- What an epoch's deadlines count from (this profile). A sender's clock does not run quite as the receiver's does, and
-- in hours the difference leads out of every window. So the base moves, step by step, to where the quickest packets say
-- that it is.
use Rattle.std.specs.Prelude.{ℕ, ℤ, pos, ◌+ℤ◌, ◌-ℤ◌, ◌+◌, ◌%◌, List, [], ◌∷◌, take, length, ◌&&◌, ◌==◌, if◌then◌else◌}
use Rattle.std.specs.Int.{int_min, int_max}
use Rattle.receiver_rules.specs.declared.limits.Limits.{Limits}
use Rattle.receiver_rules.specs.declared.anchor.Anchor.{Anchor}
use Rattle.receiver_rules.specs.declared.clock.Clock.{Clock}

-- how long a packet was under way, as its timestamp has it: the time at which it came, less how far its timestamp lies
-- after the anchor's
abbrev pub transit_of : Anchor → ℕ → ℕ → ℤ
transit_of anchor t timestamp = pos (t + anchor.timestamp) -ℤ pos timestamp

-- the least of some transits, 0 where there are none
abbrev pub least_of : List ℤ → ℤ
least_of [] = pos 0
least_of (x ∷ []) = x
least_of (x ∷ y ∷ ys) = int_min x (least_of (y ∷ ys))

-- a base moved towards a transit, by at most 9 ticks
abbrev pub base_towards : ℤ → ℤ → ℤ
base_towards base transit = int_max (base -ℤ pos 9) (int_min transit (base +ℤ pos 9))

-- what deadlines count from, by the transits of the originals that were kept in an epoch, the newest first: it begins
-- at the time of the epoch's first arrival, and after each window of 1,024 originals it moves towards the least transit
-- of these. Where there is no compensation of drift it stays
abbrev pub clock_base : Limits → ℕ → List ℤ → ℤ
clock_base limits start [] = pos start
clock_base limits start (x ∷ before) =
    if limits.drift && (length (x ∷ before) % 1024 == 0)
    then base_towards (clock_base limits start before) (least_of (take 1024 (x ∷ before)))
    else clock_base limits start before

-- the clock of an epoch that opens at a tick: no original was kept yet
abbrev pub starting_clock : ℕ → Clock
starting_clock start = record { base = pos start; originals = 0; least = pos 0 }

-- the base, how many originals were kept, and the least transit of those in the window that is not full yet, 0 where it
-- has none
abbrev pub clock_of : Limits → ℕ → List ℤ → Clock
clock_of limits start transits =
    record {
      base = clock_base limits start transits;
      originals = length transits;
      least = least_of (take (length transits % 1024) transits);
    }
