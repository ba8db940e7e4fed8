-- How a run over links ends that keeps its steps.
use Rattle.std.specs.Prelude.{◌≡◌, ◌⊎◌}
use Rattle.rist_compare.specs.declared.tear.Tear.{Tear}
use Rattle.run_parts.specs.declared.status.Status.{Status}
use Rattle.run_parts.specs.declared.status.Status.TheVariants as statuses

-- the steps that a run is to keep had no room, or differ
abbrev pub IsKeptBadly : Status → Type 0
IsKeptBadly status = (status ≡ statuses.TraceFull) ⊎ ((tear : Tear) × (status ≡ statuses.Torn tear))
