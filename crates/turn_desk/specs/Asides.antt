-- A look at a link of the sink's own, which is no step.
use Rattle.std.specs.Prelude.{◌≡◌, ℕ, List, Option, None}
use Rattle.rist_desk.specs.declared.beside.Side.{Side}
use Rattle.rist_desk.specs.declared.step.Step.{Step}
use Rattle.turn_desk.specs.declared.aside.Aside.{Aside}
use Rattle.turn_desk.specs.declared.aside.NoRoom.{NoRoom}

-- an aside adds no step
abbrev pub no_added : Aside → NoRoom → Side → Option Step
no_added ask room side = None

-- a sink did what an aside of its kind does, at a moment and on a link, and shows the same after it
pub record LooksAt {K : Type 0} (contents : K → Option (List ℕ)) (faults : K → ℕ)
    (looks : K → K → ℕ → ℕ → Side → Type 0) (us link : ℕ) (side : Side) : Type 0 where
  pub before : K
  pub after : K
  pub contents_same : contents after ≡ contents before
  pub faults_same : faults after ≡ faults before
  pub looked : looks before after us link side
