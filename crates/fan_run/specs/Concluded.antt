-- What a desk of several flows leaves once each place was told the end. Lists of a link's own rows and steps stand with
-- the oldest first, histories with the newest first.
use Rattle.std.specs.Prelude.{◌≡◌, ◌≤◌, ℕ, List, [], map, length, reverse, slice_get, true, false, Option, Some}
use Rattle.rist_desk.specs.declared.step.Step.{Step}
use Rattle.rist_desk.specs.Desk.{Given, is_cut_off}
use Rattle.rist_desk.specs.Work.{IsOlder}
use Rattle.turn_lock.specs.declared.pass.Pass.{Pass}
use Rattle.turn_lock.specs.declared.rule.Turn.{Turn}
use Rattle.turn_lock.specs.Turns.{entries, of}
use Rattle.turn_lock.specs.Passes.{entries_with, turns_seen}
use Rattle.turn_desk.specs.Stands.{with_end}
use Rattle.rist_fan.specs.declared.flow.Came.{Came}
use Rattle.rist_fan.specs.declared.flow.Flow.{Flow}
use Rattle.rist_fan.specs.Seen.{FanStep, seen}
use Rattle.fan_desk.specs.Own.{HasSeenFault}
use Rattle.desk_run.specs.Run.{IsExact}
use Rattle.desk_run.specs.Turns.{HasConcluded}

-- the steps that a place saw of rows
abbrev pub seen_by : ℕ → List FanStep → List Step
seen_by v rows = reverse (seen v (reverse rows))

-- likewise of the own rows of each link
abbrev pub own_at : ℕ → List (List FanStep) → List (List Step)
own_at v own = map (seen_by v) own

-- these lists are what the first passes own, each its own, and the passes behind them own nothing
pub record AreOwnedRows {X : Type 0} (own : List (List FanStep)) (passes : List (Pass FanStep X)) : Type 0 where
  pub each : (k : ℕ) (rows : List FanStep) → slice_get own k ≡ Some rows
      → (p : Pass FanStep X) × (slice_get passes k ≡ Some p) × (rows ≡ reverse (entries_with p))
  pub behind : (k : ℕ) (p : Pass FanStep X) → length own ≤ k → slice_get passes k ≡ Some p → entries_with p ≡ []

-- there is no other list that keeps steps
abbrev pub no_passes : List (Pass Step (Unit {0}))
no_passes = []

-- A place was told the end after what it saw of a history of rows. What is left stands as a desk that kept each step:
-- its list is a legal history, and where no write of its own sink failed, the steps before the end are those of the
-- links' own lists as the place saw them, each list's once and in its order, and its sink holds what they release. A
-- write failed exactly where its own sink's count rose.
pub record IsConcluded {K : Type 0} (given : Given) (contents : K → Option (List ℕ)) (faults : K → ℕ)
    (own : List (List Step)) (history : List Step) (flow : Flow K) (came : Came) : Type 0 where
  pub concluded : HasConcluded given own no_passes (is_cut_off came.answer) flow.receiver (contents flow.sink)
      (faults flow.sink)
  pub kept : concluded.desk.kept ≡ Some (reverse (with_end history came.answer came.outs))
  -- where those steps are copies of what one sender sent, the sink holds exactly the payloads that were reached
  pub exact : is_cut_off came.answer ≡ false → 1 ≤ given.settings.limits.playout_delay
      → IsExact given concluded.desk own flow.receiver.counts

-- There is one history of rows: each link's own rows, each once and in their order. Each place was told the end after
-- what it saw of it, and before the end a write failed there wherever a pass has seen one. What a pass has seen stands at
-- the front of the history.
pub record HaveConcluded {K X : Type 0} (given : ℕ → Given) (contents : K → Option (List ℕ)) (faults : K → ℕ)
    (own : List (List FanStep)) (passes : List (Pass FanStep X)) (flows : List (Flow K)) (came : List Came)
    : Type 0 where
  pub turns : List (Turn FanStep)
  pub owned : (k : ℕ) (rows : List FanStep) → slice_get own k ≡ Some rows → rows ≡ reverse (of k turns)
  pub behind : (k : ℕ) → length own ≤ k → of k turns ≡ []
  pub each : (v : ℕ) (flow : Flow K) (c : Came) → slice_get flows v ≡ Some flow → slice_get came v ≡ Some c
      → IsConcluded (given v) contents faults (own_at v own) (seen v (entries turns)) flow c
  pub cut : (v : ℕ) (c : Came) (k : ℕ) (p : Pass FanStep X) → slice_get came v ≡ Some c → slice_get passes k ≡ Some p
      → HasSeenFault v p → is_cut_off c.answer ≡ true
  pub older : (k : ℕ) (p : Pass FanStep X) → slice_get passes k ≡ Some p
      → IsOlder (reverse (entries (turns_seen p))) (reverse (entries turns))
