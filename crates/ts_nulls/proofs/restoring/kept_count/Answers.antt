use Rattle.std.proofs.Common.{suc, ◌+◌, ◌-◌, refl, arith}
use Rattle.ts_nulls.proofs.RestoreLemmas.{Counts-at, Counts-next, Counts-end}
use Rattle.ts_nulls.proofs.restoring.kept_count.Goals as goal

pub loop-place-preserved : goal.loop-place-preserved
loop-place-preserved c =
    let g = Counts-at c.args.units _ _ c.args.nulls c.loop-place.kept (suc (c.args.units - (c.loop-place.place + 1))) (suc (6 - c.loop-place.place))
    c.loop-place.invariant (omega arith) (omega arith) in
    let next = Counts-next c.args.units (c.args.units - (c.loop-place.place + 1)) (6 - c.loop-place.place) c.args.nulls c.loop-place.kept c.kept_at-kept.result g c.kept_at-kept.ensures.value in
    Counts-at c.args.units (c.args.units - (c.loop-place.place + 1)) (6 - c.loop-place.place) c.args.nulls (c.loop-place.kept + c.kept_at-kept.result)
    (c.args.units - (c.loop-place.place + 1)) (7 - (c.loop-place.place + 1)) next refl (omega arith)

pub returns-clause-count : goal.returns-clause-count
returns-clause-count c =
    let g = Counts-at c.args.units _ _ c.args.nulls c.loop-place.kept 0 (7 - c.loop-place.place) c.loop-place.invariant (omega arith) refl in
    Counts-end c.args.units (7 - c.loop-place.place) c.args.nulls c.loop-place.kept g

pub returns-clause-within : goal.returns-clause-within
returns-clause-within c = omega (arith, c.loop-place.invariant.within)
