use Rattle.std.proofs.Common.{◌-◌}
use Rattle.ts_nulls.proofs.RestoreLemmas.{Counts}
use Rattle.ts_nulls.proofs.restoring.kept_count.Given as goal

abbrev pub invariant-loop-place : goal.invariant-loop-place
invariant-loop-place l = Counts l.units (l.units - l.place) (7 - l.place) l.nulls l.kept
