-- What a buffer's state says of the history that it stands for.
use Rattle.std.specs.Prelude.{◌≡◌, ◌≢◌, List, if◌then◌else◌}
use Rattle.receiver_rules.specs.Steps.{Step, effective_time, has_ended}
use Rattle.receiver_rules.specs.Packets.{playout_floor, highest_of}
use Rattle.receiver_rules.specs.Epochs.{epochs_of, newest_last, IsNewestClock}
use Rattle.receiver_rules.specs.History.{anchor_of, accepted_packets, buffered_packets, current_moment, epoch_number}
use Rattle.reorder_buffer.specs.State.{State}
use Rattle.reorder_buffer.specs.declared.phase.Phase.TheVariants.{Open, Ended, Failed}

-- what the state keeps is that of the history
pub record Shows (b : State) (history : List Step) : Type 0 where
  pub phase : b.phase ≡ (if has_ended history then Ended else Open)
  pub time : b.time ≡ effective_time history
  pub anchor : b.anchor ≡ anchor_of b.limits history
  pub highest : b.highest ≡ highest_of (accepted_packets b.limits history)
  pub floor : b.floor ≡ playout_floor (accepted_packets b.limits history) (current_moment history)
  pub held : b.held ≡ buffered_packets b.limits history
  pub last : b.last ≡ newest_last (epochs_of b.limits history)
  pub epoch : b.epoch ≡ epoch_number b.limits history
  pub clock : IsNewestClock b.limits b.clock (epochs_of b.limits history)

-- after a failed write nothing is said but that the buffer has ended
abbrev pub IsStateAfter : State → List Step → Type 0
IsStateAfter b history = b.phase ≢ Failed → Shows b history
