-- What an ending says of the workers.
use Rattle.std.specs.Prelude.{◌≡◌, ◌≢◌, ◌⊎◌, List, Bool, true, false, Option, None, Some}
use Rattle.std.specs.List.{list_any, list_all}
use Rattle.outside_net.specs.Traces.{is_full}
use Rattle.reorder_buffer.specs.declared.phase.Phase.TheVariants as phases
use Rattle.rist_desk.specs.declared.ended.Ended.{Ended}
use Rattle.rist_desk.specs.declared.ended.Ended.TheVariants as ends
use Rattle.rist_desk.specs.declared.worker.Worker.{Worker}
use Rattle.rist_desk.specs.Desk.{DeskState, Given}
use Rattle.desk_run.specs.declared.ending.Ending.{Ending}
use Rattle.desk_run.specs.declared.ending.Ending.TheVariants as endings

-- ---- workers

-- a worker that ended since pairs were wanting
abbrev pub is_spent : Option Ended → Bool
is_spent None = false
is_spent (Some ends.End) = false
is_spent (Some ends.Turns) = false
is_spent (Some ends.Idle) = false
is_spent (Some ends.Failed) = false
is_spent (Some ends.Stopped) = false
is_spent (Some ends.WriteFault) = false
is_spent (Some ends.Spent) = true
is_spent (Some ends.TraceFull) = false

-- a worker that ended since a trace had no room for its next step
abbrev pub is_without_room : Option Ended → Bool
is_without_room None = false
is_without_room (Some ends.End) = false
is_without_room (Some ends.Turns) = false
is_without_room (Some ends.Idle) = false
is_without_room (Some ends.Failed) = false
is_without_room (Some ends.Stopped) = false
is_without_room (Some ends.WriteFault) = false
is_without_room (Some ends.Spent) = false
is_without_room (Some ends.TraceFull) = true

-- its link failed
abbrev pub is_link_failed : Option Ended → Bool
is_link_failed None = false
is_link_failed (Some ends.End) = false
is_link_failed (Some ends.Turns) = false
is_link_failed (Some ends.Idle) = false
is_link_failed (Some ends.Failed) = true
is_link_failed (Some ends.Stopped) = false
is_link_failed (Some ends.WriteFault) = false
is_link_failed (Some ends.Spent) = false
is_link_failed (Some ends.TraceFull) = false

-- one of the workers ended so
abbrev pub any_worker : {L C U : Type 0} → (Option Ended → Bool) → List (Worker L C U) → Bool
any_worker {L} {C} {U} test workers = list_any (λ (w : Worker L C U). test w.end) workers

-- all of them did
abbrev pub all_workers : {L C U : Type 0} → (Option Ended → Bool) → List (Worker L C U) → Bool
all_workers {L} {C} {U} test workers = list_all (λ (w : Worker L C U). test w.end) workers

-- no worker was in want of pairs, or of room for a step
abbrev pub IsSound : {L C U : Type 0} → List (Worker L C U) → Type 0
IsSound workers = (any_worker is_spent workers ≡ false) × (any_worker is_without_room workers ≡ false)

-- ---- endings

-- a write failed
abbrev pub is_write_fault : Ending → Bool
is_write_fault endings.WriteFault = true
is_write_fault endings.Spent = false
is_write_fault endings.TraceFull = false
is_write_fault (endings.Torn tear) = false
is_write_fault endings.LinksDown = false
is_write_fault endings.Done = false

-- the desk's trace is at its limit, and the end isn't told
pub record LacksRoom (given : Given) (d : DeskState) : Type 0 where
  pub full : is_full given.limit d.kept ≡ true
  pub going : d.receiver.buffer.phase ≢ phases.Ended

-- no worker was in want of pairs; and one of room for a step, or the desk of room for the end
pub record IsWithoutRoom {L C U : Type 0} (workers : List (Worker L C U)) (given : Given) (d : DeskState) : Type 0 where
  pub paired : any_worker is_spent workers ≡ false
  pub room : (any_worker is_without_room workers ≡ true) ⊎ LacksRoom given d
