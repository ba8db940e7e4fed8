-- What stands under a name, or at a place.
use Rattle.std.proofs.Common.{◌≡◌, ℕ, List, ◌∷◌, Some, arith, ◌<◌, [], length, get_or, slice_get}
use Rattle.outside_host.specs.declared.host.Place.TheVariants.{Here, Back}
use Rattle.outside_host.specs.declared.host.Place.{Place}
use Rattle.std.proofs.lemmas.Option.{slice_get-get_or}

-- one object stands there
pub same_here : {X : Type 0} (x y : X) → Here x ≡ Here y → x ≡ y
same_here x y e = cc

pub same_back : {X : Type 0} (x y : X) → Back x ≡ Back y → x ≡ y
same_back x y e = cc

-- an object that came back doesn't stand as it stood
pub not_as_it_stood : {X : Type 0} (old new : Place X) (object back : X) → old ≡ Here object → new ≡ Back back → new ≡ old → ⊥
not_as_it_stood old new object back was now same = cc

-- an element stands at each place of a list
pub at_place : {X : Type 0} (xs : List X) (i : ℕ) → i < length xs → (x : X) × (slice_get xs i ≡ Some x)
at_place [] i less = absurd (omega (arith, less))
at_place (x ∷ xs) i less = (get_or (x ∷ xs) i x, slice_get-get_or (x ∷ xs) i x less)
