-- Links that a host hands out one after another, and takes back.
use Rattle.std.specs.Prelude.{◌≡◌, ◌⊎◌, ◌<◌, ◌≤◌, ◌++◌, ℕ, List, [], Bool, IsTrue, length, slice_index_or}
use Rattle.link_channels.specs.declared.channel.Channel.{Channel}
use Rattle.link_channels.specs.declared.profile.Profile.{Profile}
use Rattle.outside_net.specs.declared.link_spec.Role.{Role}
use Rattle.outside_host.specs.Shelf.{Shelf, KnowsStated}
use Rattle.outside_host.specs.declared.host.Place.{Place}
use Rattle.outside_host.specs.declared.host.Place.TheVariants.{Here, Out, Back}

-- a host that tells has handed out no link yet
abbrev pub HasOpenedNone : {I O E L C : Type 0} → Bool → Shelf I O E L C → Type 0
HasOpenedNone tells shelf = IsTrue tells × (shelf.opened_links ≡ [])

-- a host that tells has handed out no clock yet
abbrev pub HasStartedNone : {I O E L C : Type 0} → Bool → Shelf I O E L C → Type 0
HasStartedNone tells shelf = IsTrue tells × (shelf.next_clock ≡ 0)

-- these stand first among those, in their order
abbrev pub AreFirstOf : {A : Type 0} → List A → List A → Type 0
AreFirstOf {A} these those = (rest : List A) × (those ≡ these ++ rest)

-- these objects were handed out from the first places, in order, and all others stand as they stood
pub record AreOut {L : Type 0} (old new : ℕ → Place L) (links : List L) : Type 0 where
  pub was : (place : ℕ) (d : L) → place < length links → old place ≡ Here (slice_index_or links place d)
  pub now : (place : ℕ) → place < length links → new place ≡ Out
  pub others : (place : ℕ) → length links ≤ place → new place ≡ old place

-- these objects came back to the first places, in order, where those were out, and all others stand as they stood
pub record AreBack {L : Type 0} (old new : ℕ → Place L) (links : List L) : Type 0 where
  pub now : (place : ℕ) (d : L) → place < length links → old place ≡ Out
      → new place ≡ Back (slice_index_or links place d)
  pub others : (place : ℕ) → length links ≤ place → new place ≡ old place

-- each link behind the first ones knows the peers that its address states
abbrev pub KnowStatedFrom : {L : Type 0} → (L → Channel → Bool) → Role → Profile → ℕ → List L → Type 0
KnowStatedFrom {L} knows role profile from links =
    (i : ℕ) (d : L) → from ≤ i → i < length links → KnowsStated (knows (slice_index_or links i d)) role profile

-- an object stands as it stood, or it was handed out and came back as it was
abbrev pub IsAsItWas : {X : Type 0} → Place X → Place X → Type 0
IsAsItWas {X} old new = (new ≡ old) ⊎ ((object : X) × (old ≡ Here object) × (new ≡ Back object))

-- each does
abbrev pub AreAsTheyWere : {X : Type 0} → (ℕ → Place X) → (ℕ → Place X) → Type 0
AreAsTheyWere old new = (place : ℕ) → IsAsItWas (old place) (new place)
