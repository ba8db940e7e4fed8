-- What holds in the middle of a walk.
use Rattle.std.specs.Prelude.{◌≡◌, ◌+◌, ◌^◌, ◌≤◌, ℕ, List, ◌++◌, length, flat_map, All, Option}
use Rattle.outside_io.specs.Told.{Appends, Takes}
use Rattle.capture_file.specs.Capture.{Record, Fits, magic, spelling}
use Rattle.capture_file.specs.Reading.{name_at, offset_at}

-- of the octets that were told first, these records were read by a reader that stands at this offset
abbrev pub Rest : Option (List ℕ) → Option (List ℕ) → ℕ → List Record → Type 0
Rest first remaining at done =
    (taken : List ℕ) × Takes first remaining taken × (taken ++ name_at at ≡ magic ++ flat_map spelling done)

-- a reader that stands at this offset has read these records, and no others
pub record HasRead (first remaining : Option (List ℕ)) (at : ℕ) (done : List Record) : Type 0 where
  pub each : All Fits done
  pub place : offset_at at ≡ 8 + length (flat_map spelling done)
  pub bound : at ≤ 2 ^ 40
  pub rest : Rest first remaining at done

-- records were read and taken, and the sink holds what was written of them
pub record Sofar {R V : Type 0} (so_far : List Record → List ℕ) (has_read : R → Option (List ℕ) → List Record → Type 0)
    (has_seen : V → List Record → Type 0) (first : Option (List ℕ)) (reader : R) (visitor : V)
    (held holds : Option (List ℕ)) : Type 0 where
  pub done : List Record
  pub read : has_read reader first done
  pub seen : has_seen visitor done
  pub sink : Appends held holds (so_far done)
