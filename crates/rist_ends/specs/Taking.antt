-- What is kept of numbers after one more arrival, by what a buffer tells of it.
use Rattle.std.specs.Prelude.{ℕ, ◌+◌, ◌-◌, ◌^◌, min, Bool, true, false, if◌then◌else◌}
use Rattle.std.specs.declared.option.Option.{Option}
use Rattle.std.specs.declared.option.Option.TheVariants.{None, Some}
use Rattle.seq_unwrap.specs.Nearest.{cycle_of, nearest}
use Rattle.receiver_rules.specs.declared.verdict.Verdict.{Verdict}
use Rattle.receiver_rules.specs.Packets.{is_kept}
use Rattle.receiver_rules.specs.Seen.{seen}
use Rattle.receiver_rules.specs.Steps.{Arrival}
use Rattle.rist_ends.specs.declared.numbers.Numbers.{Numbers}
use Rattle.rist_ends.specs.declared.told.What.{What}
use Rattle.rist_ends.specs.declared.told.What.TheVariants as whats
use Rattle.rist_ends.specs.Counts.{capped}

-- one above a number, and 0 where there is none
abbrev pub above_number : Option ℕ → ℕ
above_number None = 0
above_number (Some number) = number + 1

-- an arrival's number, by the highest one of its epoch
abbrev pub number_by : Option ℕ → Arrival → ℕ
number_by None arrival = 2 ^ 40 + arrival.word
number_by (Some number) arrival = nearest (cycle_of arrival.width) number arrival.word

-- the newest epoch is over
abbrev pub closed : Numbers → Option ℕ → Numbers
closed n high =
    record {
      low = 2 ^ 64 - 1;
      kept = 0;
      sent = capped (n.sent + (above_number high - n.low));
      missing = capped (n.missing + ((above_number high - n.low) - n.kept));
    }

-- a number more, where it was kept
abbrev pub with_kept : Numbers → Bool → ℕ → Numbers
with_kept n kept number =
    if kept
    then record { low = min n.low number; kept = capped (n.kept + 1); sent = n.sent; missing = n.missing }
    else n

-- an arrival more: whether it opened an epoch, the highest number before it, and whether it was kept
abbrev pub taken : Numbers → Bool → Option ℕ → Bool → Arrival → Numbers
taken n true high kept arrival = with_kept (closed n high) kept (number_by None arrival)
taken n false high kept arrival = with_kept n kept (number_by high arrival)

-- how many packets were sent, by the highest number
abbrev pub sent_of : Numbers → Option ℕ → ℕ
sent_of n high = capped (n.sent + (above_number high - n.low))

-- how many numbers the playout has passed without a packet
abbrev pub missing_of : Numbers → ℕ → ℕ → ℕ
missing_of n floor waiting = capped (n.missing + ((floor - n.low) - (n.kept - waiting)))

-- the numbers after a step with its verdict, where it has one
abbrev pub numbers_with : Option Verdict → What → Bool → Option ℕ → Numbers → Numbers
numbers_with (Some v) (whats.Media arrival) opened high n = taken n opened high (is_kept v) (seen arrival)
numbers_with (Some v) (whats.Control compound) opened high n = n
numbers_with (Some v) whats.Keepalive opened high n = n
numbers_with (Some v) whats.Refused opened high n = n
numbers_with (Some v) whats.Tick opened high n = n
numbers_with (Some v) whats.End opened high n = n
numbers_with None what opened high n = n
