-- What a contract sees of the passes of a desk of several flows.
use Rattle.std.specs.Prelude.{◌≡◌, ◌≢◌, ◌<◌, ◌⊎◌, ℕ, List, [], ◌∷◌, reverse, slice_get, Option, None, Some}
use Rattle.reorder_buffer.specs.declared.phase.Phase.TheVariants.{Open}
use Rattle.rist_desk.specs.declared.step.Step.{Step}
use Rattle.rist_desk.specs.Legal.{phase_of}
use Rattle.rist_desk.specs.Work.{OwnTold, own_told}
use Rattle.turn_lock.specs.declared.pass.Pass.{Pass}
use Rattle.turn_lock.specs.Turns.{entries}
use Rattle.turn_lock.specs.Passes.{AreAll, AreFresh, IsPassOf, entries_with, number_of, passes_of, turns_seen}
use Rattle.turn_desk.specs.Own.{AreOf}
use Rattle.rist_fan.specs.declared.fan.Fan.{Fan}
use Rattle.rist_fan.specs.Seen.{FanStep, seen}
use Rattle.fan_desk.specs.declared.desk.FanDesk.{FanDesk}

-- at each place these rows are of this link
abbrev pub AreRowsOf : ℕ → List FanStep → Type 0
AreRowsOf link rows = (v : ℕ) → AreOf link (seen v rows)

-- the rows that were made with a pass, the oldest first
abbrev pub own_rows : {X : Type 0} → Pass FanStep X → Option (List FanStep)
own_rows pass = Some (reverse (entries_with pass))

-- all rows of the turns that a pass has seen, its own and those of others, the oldest first
abbrev pub all_rows : {X : Type 0} → Pass FanStep X → Option (List FanStep)
all_rows pass = Some (reverse (entries (turns_seen pass)))

-- what a pass tells: its own rows, and all that it has seen
abbrev pub rows_told : {X : Type 0} → Pass FanStep X → OwnTold FanStep
rows_told pass = own_told (own_rows pass) (all_rows pass)

-- the steps that were made with a pass at a place, the oldest first
abbrev pub own_list : {X : Type 0} → ℕ → Pass FanStep X → Option (List Step)
own_list v pass = Some (reverse (seen v (entries_with pass)))

-- by the turns that it has seen, a write of the sink at a place has failed
abbrev pub HasSeenFault : {X : Type 0} → ℕ → Pass FanStep X → Type 0
HasSeenFault v pass = phase_of (seen v (entries (turns_seen pass))) ≢ Open

-- in some of these rows a place made no step
abbrev pub MadeNone : ℕ → List FanStep → Type 0
MadeNone v [] = ⊥
MadeNone v (row ∷ rows) = (slice_get row.steps v ≡ Some None) ⊎ MadeNone v rows

-- where one of so many places made no step in a row of the pass, the pass has seen that a write had failed there
abbrev pub KnowsEnds : {X : Type 0} → ℕ → Pass FanStep X → Type 0
KnowsEnds places pass = (v : ℕ) → v < places → MadeNone v (entries_with pass) → HasSeenFault v pass

module _ {N K : Type 0} where
  -- how many passes a desk has
  abbrev pub passes_in : FanDesk N K → ℕ
  passes_in desk = passes_of desk.lock

  -- the pass is one of the desk's, by this number, which is that of its link: at each place the steps that were made
  -- with it are of that link
  pub record IsOf (desk : FanDesk N K) (link : ℕ) (pass : Pass FanStep (Fan K)) : Type 0 where
    pub own : IsPassOf desk.lock pass
    pub number : number_of pass ≡ link
    pub rows : AreRowsOf link (entries_with pass)

  -- all passes of the desk, in order, with none of which a turn was taken
  abbrev pub AreFreshFor : FanDesk N K → List (Pass FanStep (Fan K)) → Type 0
  AreFreshFor desk passes = AreFresh desk.lock passes

  -- all passes of the desk, in order
  abbrev pub AreAllOf : FanDesk N K → List (Pass FanStep (Fan K)) → Type 0
  AreAllOf desk passes = AreAll desk.lock passes
