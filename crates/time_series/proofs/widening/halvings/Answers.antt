-- What is left needs no halving more, or one more, or none is allowed.
use Rattle.std.proofs.Common.{◌-◌, ◌+◌, arith}
use Rattle.time_series.specs.Points.{halvings}
use Rattle.time_series.proofs.SeriesLemmas.{none_more, one_more, none_left}
use Rattle.time_series.proofs.widening.halvings.Goals as goal

pub returns-then-left-clause-value : goal.returns-then-left-clause-value
unfolding halvings
returns-then-left-clause-value c =
    let none = none_more (52 - c.loop-count.count) c.loop-count.left (omega arith) in
    let all = c.loop-count.invariant in
    omega (arith, none, all)

pub loop-count-preserved : goal.loop-count-preserved
loop-count-preserved c =
    let one = one_more (52 - c.loop-count.count) (52 - (c.loop-count.count + 1)) c.loop-count.left (omega arith) (omega arith) in
    let all = c.loop-count.invariant in
    omega (arith, one, all)

pub returns-clause-value : goal.returns-clause-value
unfolding halvings
returns-clause-value c =
    let none = none_left (52 - c.loop-count.count) c.loop-count.left (omega arith) in
    let all = c.loop-count.invariant in
    omega (arith, none, all)
