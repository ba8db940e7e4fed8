-- Nothing has come.
use Rattle.value_histogram.proofs.RankLemmas.{new_histogram}
use Rattle.value_histogram.proofs.histogram.Histogram.new.Goals as goal

pub returns : goal.returns
returns c = record { state = new_histogram c.in_ok-zeros.field-0.items c.in_ok-zeros.ensures.value }
