-- One sink more.
use Rattle.std.specs.Prelude.{◌≡◌, ◌≢◌, ℕ, List, [], ◌∷◌, ◌++◌}
use Rattle.outside_host.specs.Shelf.{HandsOut}
use Rattle.outside_host.specs.declared.host.Place.{Place}
use Rattle.outside_host.specs.Sinks.{IsAsItWas}

-- the sink of this name was handed out, behind those that were out before
pub record IsNextOut {O : Type 0} (old new : List ℕ → Place O) (name : List ℕ) (had has : List O) : Type 0 where
  pub sink : O
  pub more : has ≡ had ++ sink ∷ []
  pub hands : HandsOut old new name sink

-- the sink of this name stands as it was, and all others as they stood
pub record StaysClosed {O : Type 0} (old new : List ℕ → Place O) (name : List ℕ) : Type 0 where
  pub here : IsAsItWas (old name) (new name)
  pub others : (n : List ℕ) → n ≢ name → new n ≡ old n
