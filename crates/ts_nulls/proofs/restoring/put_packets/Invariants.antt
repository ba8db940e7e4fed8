use Rattle.std.proofs.Common.{◌-◌}
use Rattle.ts_nulls.proofs.RestoreLemmas.{Puts}
use Rattle.ts_nulls.proofs.restoring.put_packets.Given as goal

abbrev pub invariant-loop-place : goal.invariant-loop-place
invariant-loop-place l = Puts l.long l.units (l.units - l.place) (7 - l.place) l.nulls l.at l.rest l.octets l.out
