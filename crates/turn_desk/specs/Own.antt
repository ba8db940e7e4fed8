-- What a contract sees of the passes of a desk.
use Rattle.std.specs.Prelude.{◌≡◌, ◌≢◌, ℕ, List, [], ◌∷◌, reverse, Option, Some}
use Rattle.reorder_buffer.specs.declared.phase.Phase.TheVariants.{Open}
use Rattle.rist_desk.specs.declared.step.Step.{Step}
use Rattle.rist_desk.specs.Legal.{phase_of}
use Rattle.turn_lock.specs.declared.pass.Pass.{Pass}
use Rattle.turn_lock.specs.Turns.{entries}
use Rattle.turn_lock.specs.Passes.{AreAll, AreFresh, IsPassOf, entries_with, number_of, passes_of, turns_seen}
use Rattle.turn_desk.specs.declared.desk.TurnDesk.{TurnDesk}
use Rattle.turn_desk.specs.declared.shared.Shared.{Shared}

-- each of these steps is of this link
abbrev pub AreOf : ℕ → List Step → Type 0
AreOf link [] = Unit {0}
AreOf link (s ∷ steps) = (s.link ≡ link) × AreOf link steps

-- the steps that were made with a pass, the oldest first
abbrev pub own_list : {X : Type 0} → Pass Step X → Option (List Step)
own_list pass = Some (reverse (entries_with pass))

-- all steps of the turns that a pass has seen, its own and those of others, the oldest first
abbrev pub all_seen : {X : Type 0} → Pass Step X → Option (List Step)
all_seen pass = Some (reverse (entries (turns_seen pass)))

-- by the turns that it has seen, a write of the sink has failed
abbrev pub HasSeenFault : {X : Type 0} → Pass Step X → Type 0
HasSeenFault pass = phase_of (entries (turns_seen pass)) ≢ Open

module _ {N K : Type 0} where
  -- how many passes a desk has
  abbrev pub passes_in : TurnDesk N K → ℕ
  passes_in desk = passes_of desk.lock

  -- the pass is one of the desk's, by this number, which is that of its link: each step that was made with it is of
  -- that link
  pub record IsOf (desk : TurnDesk N K) (link : ℕ) (pass : Pass Step (Shared N K)) : Type 0 where
    pub own : IsPassOf desk.lock pass
    pub number : number_of pass ≡ link
    pub steps : AreOf link (entries_with pass)

  -- the pass is one of the desk's, by this number, and no step was made with it
  pub record IsBeside (desk : TurnDesk N K) (number : ℕ) (pass : Pass Step (Shared N K)) : Type 0 where
    pub own : IsPassOf desk.lock pass
    pub number_is : number_of pass ≡ number
    pub none : entries_with pass ≡ []

  -- all passes of the desk, in order, with none of which a turn was taken
  abbrev pub AreFreshFor : TurnDesk N K → List (Pass Step (Shared N K)) → Type 0
  AreFreshFor desk passes = AreFresh desk.lock passes

  -- all passes of the desk, in order
  abbrev pub AreAllOf : TurnDesk N K → List (Pass Step (Shared N K)) → Type 0
  AreAllOf desk passes = AreAll desk.lock passes
