-- What became of an object of a host.
use Rattle.std.specs.Prelude.{◌≡◌, ◌⊎◌, ◌<◌, ℕ, List, length, slice_index_or}
use Rattle.outside_host.specs.Shelf.{Shelf}
use Rattle.outside_host.specs.declared.host.Place.{Place}
use Rattle.outside_host.specs.declared.host.Place.TheVariants.{Here, Back}

-- an object stands as it stood, or it was handed out and came back
abbrev pub CameBack : {X : Type 0} → Place X → Place X → Type 0
CameBack {X} old new = (new ≡ old) ⊎ ((x : X) × (y : X) × (old ≡ Here x) × (new ≡ Back y))

-- an object stands as it stood, or was handed out and came back as it was
abbrev pub IsAsItWas : {X : Type 0} → Place X → Place X → Type 0
IsAsItWas {X} old new = (new ≡ old) ⊎ ((object : X) × (old ≡ Here object) × (new ≡ Back object))

-- objects were handed out from the first places, in order, and came back there
pub record FromTheFirst {X : Type 0} (old new : ℕ → Place X) (were are : List X) : Type 0 where
  pub took : (place : ℕ) (d : X) → place < length were → old place ≡ Here (slice_index_or were place d)
  pub gave : (place : ℕ) (d : X) → place < length were → new place ≡ Back (slice_index_or are place d)

-- no link and no clock was handed out or came back, and no receiver's counts came
pub record KeepsLive {I O E L C : Type 0} (old new : Shelf I O E L C) : Type 0 where
  pub links : new.links ≡ old.links
  pub opened : new.opened_links ≡ old.opened_links
  pub clocks : new.clocks ≡ old.clocks
  pub next : new.next_clock ≡ old.next_clock
  pub report : new.report ≡ old.report

-- objects, so many, were handed out from the first places and came back there, and this was done with them
pub record HandedOut {X : Type 0} (old new : ℕ → Place X) (many : ℕ) (Did : List X → List X → Type 0) : Type 0 where
  pub were : List X
  pub are : List X
  pub count : length were ≡ many
  pub places : FromTheFirst old new were are
  pub did : Did were are
