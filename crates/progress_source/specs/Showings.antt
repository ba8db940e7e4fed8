-- What the reads of a source show.
use Rattle.std.specs.Prelude.{◌≡◌, ℕ, ◌++◌, ◌∷◌, ◌&&◌, nat_eq, nat_lt, if◌then◌else◌, List, [], Bool, true}
use Rattle.std.specs.Prelude.{Option, None, Some, Result, Ok, Err}
use Rattle.std.specs.Option.{option_map}
use Rattle.outside_io.specs.declared.source.Failed.{Failed}
use Rattle.progress_source.specs.declared.meter.Change.{Change}
use Rattle.progress_source.specs.declared.meter.Meter.{Meter}
use Rattle.progress_source.specs.declared.progress.Showing.{Showing}
use Rattle.progress_source.specs.Meters.{change_at, change_over, counted, over, shown_by}

-- A read into so many places is the last that is shown: it gave the end, or failed. No octet for no place is no end.
abbrev pub is_last : ℕ → Result ℕ Failed → Bool
is_last room (Ok count) = nat_eq count 0 && nat_lt 0 room
is_last room (Err e) = true

-- how many octets a read gave
abbrev pub count_of : Result ℕ Failed → ℕ
count_of (Ok count) = count
count_of (Err e) = 0

-- what changes at a read, by its moment, its room and its answer
abbrev pub change_after : ℕ → ℕ → Result ℕ Failed → Meter → Option Change
change_after us room answer m =
    if is_last room answer then change_over m.shown else change_at us (counted (count_of answer) m)

-- what was counted then
abbrev pub meter_after : ℕ → ℕ → Result ℕ Failed → Meter → Meter
meter_after us room answer m = if is_last room answer then over m else shown_by us (counted (count_of answer) m)

-- a change as a list of what is asked for
abbrev pub listed : Option Change → List Change
listed None = []
listed (Some change) = change ∷ []

-- an outlet that tells was asked for this change, and for nothing else
abbrev pub Asks : Option (List Change) → Option (List Change) → Option Change → Type 0
Asks old new change = new ≡ option_map (λ changes. changes ++ listed change) old

-- a read was counted at the moment that the clock tells, and what changes by it was asked for
abbrev pub Shows : {C O : Type 0} → (C → Option (ℕ → ℕ)) → (O → Option (List Change)) → ℕ → Result ℕ Failed
    → Showing C O → Showing C O → Type 0
Shows moments asked room answer old new =
    (now : ℕ → ℕ) → moments old.clock ≡ Some now
    → (new.meter ≡ meter_after (now 0) room answer old.meter)
    × Asks (asked old.outlet) (asked new.outlet) (change_after (now 0) room answer old.meter)

-- no more line comes, and the one that stood was asked to go
abbrev pub Ends : {C O : Type 0} → (O → Option (List Change)) → Showing C O → Showing C O → Type 0
Ends asked old new =
    (new.meter ≡ over old.meter) × Asks (asked old.outlet) (asked new.outlet) (change_over old.meter.shown)

-- what a read shows of a source that shows something
abbrev pub ShowsIn : {C O : Type 0} → (C → Option (ℕ → ℕ)) → (O → Option (List Change)) → ℕ → Result ℕ Failed
    → Option (Showing C O) → Option (Showing C O) → Type 0
ShowsIn moments asked room answer None new = new ≡ None
ShowsIn moments asked room answer (Some old) None = ⊥
ShowsIn moments asked room answer (Some old) (Some new) = Shows moments asked room answer old new

-- no more line comes of a source that shows something
abbrev pub EndsIn : {C O : Type 0} → (O → Option (List Change)) → Option (Showing C O) → Option (Showing C O) → Type 0
EndsIn asked None new = new ≡ None
EndsIn asked (Some old) None = ⊥
EndsIn asked (Some old) (Some new) = Ends asked old new
