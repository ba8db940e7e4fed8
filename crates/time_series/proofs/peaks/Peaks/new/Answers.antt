-- Nothing has come.
use Rattle.time_series.proofs.SeriesLemmas.{new_room}
use Rattle.time_series.proofs.PeakLemmas.{new_peaks}
use Rattle.time_series.proofs.peaks.Peaks.new.Goals as goal

pub invariant_of-result : goal.invariant_of-result
invariant_of-result c = new_room c.in_ok-zeros.field-0.items c.in_ok-zeros.ensures.value

pub returns : goal.returns
returns c = record { state = new_peaks c.in_ok-zeros.field-0.items c.in_ok-zeros.ensures.value }
