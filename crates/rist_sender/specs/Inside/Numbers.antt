-- The numbers that are left of a compound's requests.
use Rattle.std.specs.Prelude.{ℕ, List, ◌++◌, map, if◌then◌else◌, Option, None, Some}
use Rattle.std.specs.List.{flat_map}
use Rattle.seq_unwrap.specs.declared.width.Width.{Width}
use Rattle.seq_unwrap.specs.Nearest.{cycle_of}
use Rattle.sender_rules.specs.Sendings.{Packet, Sending, last_sent_again}
use Rattle.link_channels.specs.Intervals.{has_passed_since}
use Rattle.sender_rules.specs.Retransmissions.{AskedNumber}
use Rattle.rist_nack.specs.declared.ask.Ask.{Ask}
use Rattle.rist_nack.specs.Asked.{following}
use Rattle.rist_sender.specs.Calls.{numbers_of}
use Rattle.rist_sender.specs.declared.numbers.Number.{Number}

-- a number as the rules see it
abbrev pub number_seen : Number → AskedNumber
number_seen number = record { width = number.width; word = number.word }

-- so many numbers of an ask from one on
abbrev pub numbers_from : Width → ℕ → ℕ → List AskedNumber
numbers_from width next count =
    map (λ word. record { width = width; word = word }) (following (cycle_of width) count next)

-- the numbers of the ask that is being read, and those of the asks behind it
abbrev pub numbers_left : Width → ℕ → ℕ → List Ask → List AskedNumber
numbers_left width next count asks = numbers_from width next count ++ flat_map numbers_of asks

-- the number of a packet that was found, unless it was sent again within the hold time
abbrev pub number_again : ℕ → ℕ → List Sending → Option Packet → Option ℕ
number_again hold tick history None = None
number_again hold tick history (Some packet) =
    if has_passed_since hold tick (last_sent_again history packet.number) then Some packet.number else None
