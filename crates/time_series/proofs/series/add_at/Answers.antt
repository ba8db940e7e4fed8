-- The buckets are as wide as is wanted, and then one of them is raised.
use Rattle.std.proofs.Common.{subst, sym}
use Rattle.std.specs.Prelude.{◌∷◌}
use Rattle.time_series.specs.Inside.Widening.{AreSums}
use Rattle.time_series.proofs.SeriesLemmas.{one_added}
use Rattle.time_series.proofs.series.add_at.Goals as goal

pub returns : goal.returns
returns c = record {
  sums = λ marks are.
      subst (AreSums c.args.to (record { second = c.args.second; amount = c.args.amount } ∷ marks)) (sym c.raise.ensures.value)
      (one_added c.args.to c.args.second c.args.amount marks c.widen.new.points c.requires.within (c.widen.ensures.sums marks are));
}
