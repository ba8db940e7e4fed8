-- Each amount stands in one bucket.
use Rattle.time_series.proofs.TotalLemmas.{total_is}
use Rattle.time_series.proofs.laws.points_add_up.Goals as goal

pub returns : goal.returns
returns c marks = total_is marks
