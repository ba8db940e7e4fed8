-- Sinks that a host hands out under several names, and takes back.
use Rattle.std.specs.Prelude.{◌≡◌, ◌≢◌, ◌⊎◌, ◌<◌, ℕ, List, [], length, slice_index_or, All, AllPairs, Contains}
use Rattle.outside_host.specs.declared.host.Place.{Place}
use Rattle.outside_host.specs.declared.host.Place.TheVariants.{Here, Out, Back}

-- no name is given twice
abbrev pub AreDifferent : List (List ℕ) → Type 0
AreDifferent names = AllPairs (λ one other. one ≢ other) names

-- under all names but these all stands as it stood
abbrev pub StayOthers : {O : Type 0} → (List ℕ → Place O) → (List ℕ → Place O) → List (List ℕ) → Type 0
StayOthers old new names = (name : List ℕ) → (Contains names name → ⊥) → new name ≡ old name

-- the sinks of these names were handed out, in order, and all others stand as they stood
pub record AreOut {O : Type 0} (old new : List ℕ → Place O) (names : List (List ℕ)) (sinks : List O) : Type 0 where
  pub was : (place : ℕ) (d : O) → place < length names
      → old (slice_index_or names place []) ≡ Here (slice_index_or sinks place d)
  pub now : All (λ name. new name ≡ Out) names
  pub others : StayOthers old new names

-- these sinks came back under the names where those were out, and all others stand as they stood
pub record AreBack {O : Type 0} (old new : List ℕ → Place O) (names : List (List ℕ)) (sinks : List O) : Type 0 where
  pub now : (place : ℕ) (d : O) → place < length names → old (slice_index_or names place []) ≡ Out
      → new (slice_index_or names place []) ≡ Back (slice_index_or sinks place d)
  pub others : StayOthers old new names

-- a sink stands as it stood, or it was handed out and came back as it was
abbrev pub IsAsItWas : {O : Type 0} → Place O → Place O → Type 0
IsAsItWas {O} old new = (new ≡ old) ⊎ ((sink : O) × (old ≡ Here sink) × (new ≡ Back sink))

-- each does
abbrev pub AreAsTheyWere : {O : Type 0} → (List ℕ → Place O) → (List ℕ → Place O) → Type 0
AreAsTheyWere old new = (name : List ℕ) → IsAsItWas (old name) (new name)

-- a sink is opened only where those before it could be: where one stands as it stood, so do all behind it
abbrev pub AreOpenedInOrder : {O : Type 0} → (List ℕ → Place O) → (List ℕ → Place O) → List (List ℕ) → Type 0
AreOpenedInOrder old new names = AllPairs (λ one later. new one ≡ old one → new later ≡ old later) names
