-- What the sequence numbers of a history tell of packets: how many were sent, and how many of them were not written. A
-- number counts as sent from the lowest to the highest that was kept in its epoch.
use Rattle.std.specs.Prelude.{◌≡◌, ℕ, ◌+◌, ◌-◌, ◌^◌, min, List, [], ◌∷◌, length, Option, None, Some}
use Rattle.receiver_rules.specs.declared.limits.Limits.{Limits}
use Rattle.receiver_rules.specs.declared.anchor.Highest.{Highest}
use Rattle.receiver_rules.specs.Steps.{Step}
use Rattle.receiver_rules.specs.Packets.{Packet, highest_of, playout_floor}
use Rattle.receiver_rules.specs.Epochs.{Epoch, epochs_of, newest_accepted}
use Rattle.receiver_rules.specs.History.{accepted_packets, buffered_packets, current_moment}
use Rattle.rist_ends.specs.declared.numbers.Numbers.{Numbers}
use Rattle.rist_ends.specs.Counts.{capped}

-- the lowest number of some packets, and one above all numbers where there are none
abbrev pub lowest_of : List Packet → ℕ
lowest_of [] = 2 ^ 64 - 1
lowest_of (p ∷ ps) = min p.number (lowest_of ps)

-- one above the highest number, and 0 where there is none
abbrev pub above : Option Highest → ℕ
above None = 0
above (Some highest) = highest.number + 1

-- ---- sent

-- how many numbers an epoch has, from the lowest to the highest that was kept
abbrev pub sent_in : List Packet → ℕ
sent_in accepted = above (highest_of accepted) - lowest_of accepted

-- those of some epochs
abbrev pub sent_over : List Epoch → ℕ
sent_over [] = 0
sent_over (epoch ∷ epochs) = sent_in epoch.accepted + sent_over epochs

-- how many packets were sent, by the numbers of a history
abbrev pub sent_count : Limits → List Step → ℕ
sent_count limits history = sent_over (epochs_of limits history)

-- ---- never written

-- how many numbers of an epoch lie below the playout's floor, less those that were written: what was kept and does not
-- wait
abbrev pub passed_in : List Packet → ℕ → ℕ → ℕ
passed_in accepted floor waiting = (floor - lowest_of accepted) - (capped (length accepted) - waiting)

-- how many numbers of an epoch that is over were not kept
abbrev pub missing_in : List Packet → ℕ
missing_in accepted = sent_in accepted - capped (length accepted)

-- those of some epochs that are over
abbrev pub missing_over : List Epoch → ℕ
missing_over [] = 0
missing_over (epoch ∷ epochs) = missing_in epoch.accepted + missing_over epochs

-- those of the epochs that are over, and those that the playout has passed in the newest one, by its floor and by how
-- many packets wait
abbrev pub missing_at : List Epoch → ℕ → ℕ → ℕ
missing_at [] floor waiting = 0
missing_at (current ∷ earlier) floor waiting = passed_in current.accepted floor waiting + missing_over earlier

-- how many numbers of a history the playout has passed without a packet
abbrev pub missing_count : Limits → List Step → ℕ
missing_count limits history =
    missing_at (epochs_of limits history) (playout_floor (accepted_packets limits history) (current_moment history))
    (length (buffered_packets limits history))

-- ---- what is kept of them

-- the epochs that are over
abbrev pub epochs_over : List Epoch → List Epoch
epochs_over [] = []
epochs_over (current ∷ earlier) = earlier

-- what is kept of the numbers of some epochs, the newest first
pub record AreNumbersOf (n : Numbers) (epochs : List Epoch) : Type 0 where
  pub lowest : n.low ≡ lowest_of (newest_accepted epochs)
  pub count : n.kept ≡ capped (length (newest_accepted epochs))
  pub before : n.sent ≡ capped (sent_over (epochs_over epochs))
  pub lost : n.missing ≡ capped (missing_over (epochs_over epochs))
