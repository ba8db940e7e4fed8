-- The buckets are as wide as is wanted, and then one of them is lifted.
use Rattle.std.proofs.Common.{subst, sym}
use Rattle.std.specs.Prelude.{◌∷◌}
use Rattle.time_series.specs.Inside.Rising.{ArePeaks}
use Rattle.time_series.proofs.PeakLemmas.{one_taken}
use Rattle.time_series.proofs.peaks.lift_at.Goals as goal

pub returns : goal.returns
returns c = record {
  peaks = λ marks are.
      subst (ArePeaks c.args.to (record { second = c.args.second; amount = c.args.amount } ∷ marks)) (sym c.lift.ensures.value)
      (one_taken c.args.to c.args.second c.args.amount marks c.widen_peaks.new.points c.requires.within (c.widen_peaks.ensures.peaks marks are));
}
