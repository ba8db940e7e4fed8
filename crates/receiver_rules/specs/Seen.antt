-- How the values of the programs show those of the definitions.
use Rattle.std.specs.Prelude.{◌≡◌, ℕ, ℤ, pos, ◌+◌, ◌%◌, ◌==◌, if◌then◌else◌, Bool, List, [], Option, None, Some}
use Rattle.receiver_rules.specs.Steps.{Arrival}
use Rattle.receiver_rules.specs.Packets.{Packet, higher, Moment, At, Ever}
use Rattle.std.specs.Int.{int_min}
use Rattle.receiver_rules.specs.Clock.{base_towards, starting_clock, transit_of}
use Rattle.receiver_rules.specs.declared.anchor.Anchor.{Anchor}
use Rattle.receiver_rules.specs.declared.clock.Clock.{Clock}
use Rattle.receiver_rules.specs.declared.limits.Limits.{Limits}
use Rattle.receiver_rules.specs.declared.anchor.Highest.{Highest}
use Rattle.receiver_rules.specs.declared.arrival.Arrival.{Arrival as Offered}
use Rattle.receiver_rules.specs.declared.place.Position.{Position}

-- an arrival as the rules see it
abbrev pub seen : Offered → Arrival
seen arrival =
    record {
      flow = arrival.flow;
      again = arrival.again;
      width = arrival.width;
      word = arrival.word;
      timestamp = arrival.stamp;
      payload = arrival.payload.now;
    }

-- a tick, or the end of all
abbrev pub moment_of : Option ℕ → Moment
moment_of None = Ever
moment_of (Some t) = At t

-- the packet at a place
abbrev pub packet_at : Position → List ℕ → Packet
packet_at place payload =
    record { number = place.number; timestamp = place.timestamp; deadline = place.deadline; payload = payload }

-- the place of a packet
pub record IsPlaceOf (place : Position) (p : Packet) : Type 0 where
  pub number : place.number ≡ p.number
  pub timestamp : place.timestamp ≡ p.timestamp
  pub deadline : place.deadline ≡ p.deadline

-- the highest kept packet after one more
abbrev pub highest_with : ℕ → ℕ → Option Highest → Highest
highest_with number timestamp highest =
    higher (record { number = number; timestamp = timestamp; deadline = pos 0; payload = [] }) highest

-- the least transit of the window that is not full yet, with one more
abbrev pub least_after : Clock → ℤ → ℤ
least_after clock transit = if clock.originals % 1024 == 0 then transit else int_min transit clock.least

-- a clock after one more original
abbrev pub clock_after : Limits → Clock → ℤ → Clock
clock_after limits clock transit =
    if (clock.originals + 1) % 1024 == 0
    then record {
      base = if limits.drift then base_towards clock.base (least_after clock transit) else clock.base;
      originals = clock.originals + 1;
      least = pos 0;
    }
    else record { base = clock.base; originals = clock.originals + 1; least = least_after clock transit }

-- when the current epoch began, or begins
abbrev pub start_of : Option Anchor → ℕ → ℕ
start_of None t = t
start_of (Some anchor) t = anchor.time

-- the clock of the current epoch, which begins at a tick where nothing has fixed an anchor yet
abbrev pub begun_clock : Option Anchor → Clock → ℕ → Clock
begun_clock None clock t = starting_clock t
begun_clock (Some anchor) clock t = clock

-- the clock after a packet, which may count
abbrev pub counted_clock : Limits → Anchor → Clock → ℕ → ℕ → Bool → Clock
counted_clock limits anchor clock t timestamp counts =
    if counts then clock_after limits clock (transit_of anchor t timestamp) else clock
