-- What a plain program knows after some steps, against the history.
use Rattle.std.specs.Prelude.{◌≡◌, ◌<◌, ◌≤◌, ◌^◌, List, length}
use Rattle.std.specs.Option.{ForSome}
use Rattle.receiver_rules.specs.declared.limits.Limits.{Limits}
use Rattle.plain_rules.specs.declared.receiver.running.Run.{Run}
use Rattle.receiver_rules.specs.Steps.{Step, effective_time, has_ended}
use Rattle.receiver_rules.specs.Packets.{highest_of, by_number}
use Rattle.receiver_rules.specs.Epochs.{Epoch, epochs_of, newest_anchor, newest_accepted, newest_last, IsNewestClock}
use Rattle.receiver_rules.specs.History.{verdicts_of}
use Rattle.receiver_rules.specs.Bounds.{IsEarlyAnchor, IsMidHighest, IsClockWithin}
use Rattle.plain_rules.specs.Receiver.Kept.{kept_packets, packets_before}

-- bounds, and that the highest kept packet is known
pub record IsSmallRun (run : Run) : Type 0 where
  pub time : run.time < 2 ^ 61
  pub anchor : ForSome run.anchor (IsEarlyAnchor run.time)
  pub clock : ForSome run.anchor (λ a. IsClockWithin a.time (length run.kept.items) run.clock)
  pub highest : ForSome run.highest IsMidHighest
  pub known : run.highest ≡ highest_of (kept_packets run.kept.items)
  pub last : run.last ≤ run.time

-- what a run knows of the epochs
pub record EpochsShow (run : Run) (epochs : List Epoch) : Type 0 where
  pub anchor : run.anchor ≡ newest_anchor epochs
  pub kept : kept_packets run.kept.items ≡ newest_accepted epochs
  pub ordered : kept_packets run.ordered.items ≡ by_number (newest_accepted epochs)
  pub last : run.last ≡ newest_last epochs
  pub over : kept_packets run.over.items ≡ packets_before epochs

-- what a run knows is that of the history
pub record RunShows (limits : Limits) (run : Run) (history : List Step) : Type 0 where
  pub time : run.time ≡ effective_time history
  pub ended : run.has_ended ≡ has_ended history
  pub epochs : EpochsShow run (epochs_of limits history)
  pub verdicts : run.verdicts.items ≡ verdicts_of limits history
  pub clock : IsNewestClock limits run.clock (epochs_of limits history)
