-- Which random words a run leaves as they stood.
use Rattle.std.specs.Prelude.{◌≡◌, ◌≢◌, ℕ, Bool, false}
use Rattle.outside_host.specs.Shelf.{Shelf}
use Rattle.run_parts.specs.Places.{CameBack}

-- all random words stand as they stood but for the first, which came back; that one too where none are drawn
pub record KeepsWords {I O E L C : Type 0} (old new : Shelf I O E L C) (draws : Bool) : Type 0 where
  pub others : (place : ℕ) → place ≢ 0 → new.entropies place ≡ old.entropies place
  pub first : CameBack (old.entropies 0) (new.entropies 0)
  pub undrawn : draws ≡ false → new.entropies 0 ≡ old.entropies 0
