use Rattle.std.proofs.Common.{◌-◌}
use Rattle.ts_nulls.proofs.StripLemmas.{Goes}
use Rattle.ts_nulls.proofs.stripping.keep.Given as goal

abbrev pub invariant-loop-place : goal.invariant-loop-place
invariant-loop-place l = Goes l.size l.count (l.count - l.place) (7 - l.place) l.nulls l.len l.rest l.payload l.out
