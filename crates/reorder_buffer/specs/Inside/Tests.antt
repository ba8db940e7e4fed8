-- The verdict as the buffer's own state shows it.
use Rattle.std.specs.Prelude.{◌≡◌, ◌<◌, ◌≤◌, true, false, ℕ, ℤ, pos, int_le, int_lt, ◌+◌, ◌*◌, ◌^◌, not, nat_le, nat_lt}
use Rattle.std.specs.Prelude.{◌==◌, unwrap_or}
use Rattle.std.specs.List.{list_any}
use Rattle.receiver_rules.specs.declared.verdict.Verdict.{Verdict}
use Rattle.receiver_rules.specs.declared.anchor.Anchor.{Anchor}
use Rattle.receiver_rules.specs.Steps.{Arrival}
use Rattle.receiver_rules.specs.Epochs.{new_anchor}
use Rattle.receiver_rules.specs.Packets.{Packet, Tests, first_verdict, distance, placed_packet}
use Rattle.receiver_rules.specs.declared.clock.Clock.{Clock}
use Rattle.receiver_rules.specs.Seen.{begun_clock}
use Rattle.receiver_rules.specs.Bounds.{IsMid}
use Rattle.reorder_buffer.specs.State.{State}

-- the tests on an arrival of this flow, number and deadline, by what the state keeps
abbrev pub tests_here : State → Anchor → ℕ → ℕ → ℕ → ℤ → Tests
tests_here b anchor t flow number deadline =
    record {
      stranger = not (flow == anchor.flow);
      exhausted = nat_le (2 ^ 62) number;
      late = int_le deadline (pos t);
      behind = nat_lt number b.floor;
      early = int_lt (pos (t + 2 * b.limits.playout_delay)) deadline;
      twice = list_any (λ p. p.number == number) b.held;
      span = list_any (λ p. nat_le b.limits.capacity (distance p.number number)) b.held;
    }

-- the verdict on it
abbrev pub verdict_here : State → Anchor → ℕ → ℕ → ℕ → ℤ → Verdict
verdict_here b anchor t flow number deadline = first_verdict (tests_here b anchor t flow number deadline)

-- what deadlines count from at an arrival, which may be the first of its epoch
abbrev pub anchor_at : State → ℕ → Arrival → Anchor
anchor_at b t arrival = unwrap_or b.anchor (new_anchor t arrival)

-- and by which clock, which may begin then
abbrev pub clock_at : State → ℕ → Clock
clock_at b t = begun_clock b.anchor b.clock t

-- an arrival with its place
abbrev pub placed_at : State → ℕ → Arrival → Packet
placed_at b t arrival = placed_packet b.limits (anchor_at b t arrival) (clock_at b t).base b.highest arrival

-- the verdict on an arrival, where nothing more goes out before
abbrev pub judged : State → ℕ → Arrival → Verdict
judged b t arrival =
    let p = placed_at b t arrival in
    verdict_here b (anchor_at b t arrival) t arrival.flow p.number p.deadline

-- a packet that may wait
pub record IsAdmissible (b : State) (p : Packet) : Type 0 where
  pub low : b.floor ≤ p.number
  pub high : p.number < 2 ^ 62
  pub mid : IsMid b.highest p
  pub positive : int_lt p.deadline (pos 0) ≡ false
  pub soon : int_lt p.deadline (pos (2 ^ 62)) ≡ true
  pub new : list_any (λ q. q.number == p.number) b.held ≡ false
  pub near : list_any (λ q. nat_le b.limits.capacity (distance q.number p.number)) b.held ≡ false
