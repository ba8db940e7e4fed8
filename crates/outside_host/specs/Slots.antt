-- Objects under names, in order.
use Rattle.std.specs.Prelude.{◌≡◌, ◌<◌, ℕ, ◌+◌, List, [], ◌∷◌, length, if◌then◌else◌, string_bytes, Option, MatchOption}
use Rattle.std.specs.Str.{bytes_eq}
use Rattle.outside_host.specs.declared.host.Place.{Place}
use Rattle.outside_host.specs.declared.host.Place.TheVariants.{Absent}
use Rattle.outside_host.specs.declared.slots.Slot.{Slot}

-- what stands under a name: the first slot of that name counts
abbrev pub place_of : {T : Type 0} → List (Slot T) → List ℕ → Place T
place_of [] name = Absent
place_of (s ∷ slots) name = if bytes_eq (string_bytes s.name) name then s.place else place_of slots name

-- the first slot of a name, or how many slots there are
abbrev pub index_of : {T : Type 0} → List (Slot T) → List ℕ → ℕ
index_of [] name = 0
index_of (s ∷ slots) name = if bytes_eq (string_bytes s.name) name then 0 else index_of slots name + 1

-- the index of the first slot of a name, where there is one
abbrev pub IsFirstOf : {T : Type 0} → List (Slot T) → List ℕ → Option ℕ → Type 0
IsFirstOf slots name found =
    MatchOption found (index_of slots name ≡ length slots) (λ i. (i ≡ index_of slots name) × (i < length slots))
