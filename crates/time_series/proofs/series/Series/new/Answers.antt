-- Nothing has come.
use Rattle.time_series.proofs.SeriesLemmas.{new_room, new_series}
use Rattle.time_series.proofs.series.Series.new.Goals as goal

pub invariant_of-result : goal.invariant_of-result
invariant_of-result c = new_room c.in_ok-zeros.field-0.items c.in_ok-zeros.ensures.value

pub returns : goal.returns
returns c = record { state = new_series c.in_ok-zeros.field-0.items c.in_ok-zeros.ensures.value }
