-- A run in turns.
use Rattle.std.specs.Prelude.{◌≡◌, ◌≢◌, ◌≤◌, ℕ, List, [], length, reverse, slice_get, Bool, true, false, Option, Some}
use Rattle.std.specs.Prelude.{is_some}
use Rattle.outside_io.specs.Causes.{RoseWhere}
use Rattle.rist_ends.specs.Receiver.{ReceiverState, settings_of}
use Rattle.rist_compare.specs.declared.tear.Tear.{Tear}
use Rattle.rist_desk.specs.declared.step.Step.{Step}
use Rattle.rist_desk.specs.declared.worker.Worker.{Worker}
use Rattle.rist_desk.specs.Desk.{DeskState, Given, StandsFor}
use Rattle.turn_lock.specs.declared.pass.Pass.{Pass}
use Rattle.turn_lock.specs.Passes.{entries_with}
use Rattle.turn_desk.specs.Own.{HasSeenFault, all_seen}
use Rattle.desk_run.specs.declared.ending.Ending.{Ending}
use Rattle.desk_run.specs.declared.ending.Ending.TheVariants as endings
use Rattle.desk_run.specs.Endings.{is_spent, is_without_room, is_link_failed, any_worker, all_workers, is_write_fault}
use Rattle.desk_run.specs.Endings.{IsSound}
use Rattle.desk_run.specs.Receiving.{HasReceived}
use Rattle.desk_run.specs.Run.{HasSeen}

-- these lists are what the first passes own, each its own, and the passes behind them own nothing
pub record AreOwned {X : Type 0} (own : List (List Step)) (passes : List (Pass Step X)) : Type 0 where
  pub each : (k : ℕ) (steps : List Step) → slice_get own k ≡ Some steps
      → (p : Pass Step X) × (slice_get passes k ≡ Some p) × (steps ≡ reverse (entries_with p))
  pub behind : (k : ℕ) (p : Pass Step X) → length own ≤ k → slice_get passes k ≡ Some p → entries_with p ≡ []

-- The end was told to a desk in turns. What is left stands as a desk that kept each step: its list is a legal history,
-- and where no write failed, the steps before the end are those of the own lists, each list's once and in its order,
-- and the sink holds what they release. A write failed exactly where the sink's count rose, and before the end wherever
-- a pass has seen one. What a pass has seen stands at the front of the list.
pub record HasConcluded {X : Type 0} (given : Given) (own : List (List Step)) (passes : List (Pass Step X)) (cut : Bool)
    (receiver : ReceiverState) (contents : Option (List ℕ)) (faults : ℕ) : Type 0 where
  pub desk : DeskState
  pub receiver_is : desk.receiver ≡ receiver
  pub contents_are : desk.contents ≡ contents
  pub faults_are : desk.faults ≡ faults
  pub tells : is_some desk.kept ≡ true
  pub settings : settings_of receiver ≡ given.settings
  pub stands : (steps : List Step) → desk.kept ≡ Some steps → StandsFor given desk (reverse steps)
  pub cause : RoseWhere cut given.faults faults
  pub received : cut ≡ false → HasReceived given desk.kept desk.contents own
  pub seen : (k : ℕ) (p : Pass Step X) → slice_get passes k ≡ Some p → HasSeenFault p → cut ≡ true
  pub older : (k : ℕ) (p : Pass Step X) → slice_get passes k ≡ Some p → HasSeen desk.kept (all_seen p)

-- an ending that fits the workers, where no write failed and nothing is torn
pub record FitsAfter {L C U : Type 0} (workers : List (Worker L C U)) (ending : Ending) : Type 0 where
  pub no_fault : is_write_fault ending ≡ false
  pub spent : ending ≡ endings.Spent → any_worker is_spent workers ≡ true
  pub full : ending ≡ endings.TraceFull → any_worker is_without_room workers ≡ true
  pub whole : (tear : Tear) → ending ≢ endings.Torn tear
  pub down : ending ≡ endings.LinksDown → IsSound workers × (all_workers is_link_failed workers ≡ true)
  pub done : ending ≡ endings.Done → IsSound workers × (all_workers is_link_failed workers ≡ false)

-- the ending of a run in turns: a write failed, or one that fits the workers
abbrev pub ending_by : Bool → Ending → Ending
ending_by true after = endings.WriteFault
ending_by false after = after
