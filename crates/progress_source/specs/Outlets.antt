-- The octets that a change on the terminal is made by: a carriage return, the line, and the control sequence EL (ECMA-48,
-- section 8.3.41), which erases what stands behind it.
use Rattle.std.specs.Prelude.{◌≡◌, ◌≤◌, ℕ, List, [], ◌∷◌, ◌++◌, Option, None, Bool, true, false, not}
use Rattle.outside_io.specs.Causes.{RoseWhere}
use Rattle.outside_io.specs.Told.{Appends, AppendsPart}
use Rattle.progress_source.specs.declared.meter.Change.{Change}
use Rattle.progress_source.specs.declared.meter.Change.TheVariants.{Line, Clears}
use Rattle.progress_source.specs.Extents.{extent_text}

-- ESC [ K
abbrev pub erase : List ℕ
erase = 27 ∷ 91 ∷ 75 ∷ []

-- the octets of a change
abbrev pub change_octets : Change → List ℕ
change_octets (Line extent) = 13 ∷ (extent_text extent ++ erase)
change_octets Clears = 13 ∷ erase

-- what was asked for is not told
abbrev pub untold : Option (List Change)
untold = None

-- a sink gained octets where they were put, and else a front part of them
abbrev pub Puts : Option (List ℕ) → Option (List ℕ) → List ℕ → Bool → Type 0
Puts old new octets true = Appends old new octets
Puts old new octets false = AppendsPart old new octets

-- likewise those of a change
abbrev pub PutsChange : Option (List ℕ) → Option (List ℕ) → Change → Bool → Type 0
PutsChange old new change done = Puts old new (change_octets change) done

-- Whether it was put is the sink's doing: its count of faults rose where it wasn't. A line that was not put may have wanted
-- memory.
abbrev pub HasPutCause : Change → Bool → ℕ → ℕ → Type 0
HasPutCause (Line extent) true before now = now ≡ before
HasPutCause (Line extent) false before now = before ≤ now
HasPutCause Clears done before now = RoseWhere (not done) before now
