-- Objects by place, from 0.
use Rattle.std.specs.Prelude.{ℕ, List, slice_index_or}
use Rattle.outside_host.specs.declared.host.Place.{Place}
use Rattle.outside_host.specs.declared.host.Place.TheVariants.{Absent}

-- what stands at a place: nothing past the last
abbrev pub object_at : {T : Type 0} → List (Place T) → ℕ → Place T
object_at places at = slice_index_or places at Absent
