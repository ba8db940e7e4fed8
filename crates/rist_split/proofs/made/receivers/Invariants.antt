-- those so far were told nothing
use Rattle.std.proofs.Common.{◌≤◌, ◌-◌, length}
use Rattle.std.specs.List.{All}
use Rattle.rist_ends.specs.Settings.{limits_of}
use Rattle.rist_split.specs.Split.{IsFresh}
use Rattle.rist_split.proofs.made.receivers.Given as goal

abbrev pub invariant-loop-alloc : goal.invariant-loop-alloc
invariant-loop-alloc l = (length l.receivers.items ≤ l.count) × All (IsFresh (limits_of l.settings)) l.receivers.items

abbrev pub decreases-loop-alloc : goal.decreases-loop-alloc
decreases-loop-alloc l = l.count - length l.receivers.items
