-- What a run leaves whose sending end was made before.
use Rattle.std.specs.Prelude.{◌≡◌, ℕ, List, [], map, Option, Some}
use Rattle.outside_net.specs.Links.{LinkTells}
use Rattle.rist_ends.specs.declared.counts.Counts.{Counts}
use Rattle.rist_desk.specs.declared.worker.ServingLimits.{ServingLimits}
use Rattle.desk_run.specs.declared.ending.Ending.{Ending}
use Rattle.desk_run.specs.Run.{Receives, TimedLinks, outside}
use Rattle.desk_run.specs.Setup.{Setup}
use Rattle.rist_gateway.specs.declared.ending.GateEnding.{GateEnding}
use Rattle.rist_gateway.specs.Onward.{OnwardState, IsOnward, shown}
use Rattle.rist_gateway.specs.Run.{EndsGate}

-- What was received on these links went on by a sending end that was made so; its links and its clock are those.
pub record PlaysOn {L C : Type 0} (moments : C → Option (ℕ → ℕ)) (line : LinkTells L) (s : Setup)
    (limits : ServingLimits) (was is : TimedLinks L C) (first : OnwardState) (onward : List L) (clock : C)
    (counts : Counts) (ending : GateEnding) : Type 0 where
  pub last : OnwardState
  pub ended : Ending
  pub receives : Receives moments line s limits (outside was.links was.clocks (Some []) 0)
      (outside is.links is.clocks (Some last.passed.sent) last.faults) counts ended
  pub does : IsOnward first last
  pub links : last.links ≡ map (shown line) onward
  pub clock_is : last.passed.moments ≡ moments clock
  pub ends : EndsGate ended last.put_bad last.aside_bad ending
