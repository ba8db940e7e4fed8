-- The points up to the latest second's.
use Rattle.std.proofs.Common.{◌∙◌, ap, take, ◌+◌, ◌/◌, ◌^◌}
use Rattle.time_series.specs.Points.{shown_points}
use Rattle.time_series.proofs.PeakLemmas.{shown_peaks}
use Rattle.time_series.proofs.peaks.Peaks.points.Goals as goal

pub returns-clause-value : goal.returns-clause-value
returns-clause-value c =
    ap (take (c.self.inside.latest / 2 ^ c.self.inside.scale + 1)) c.deref.ensures.value ∙ ap shown_points c.self.view_is

pub returns-clause-peaks : goal.returns-clause-peaks
returns-clause-peaks c marks is =
    ap (take (c.self.inside.latest / 2 ^ c.self.inside.scale + 1)) c.deref.ensures.value ∙ ap shown_points c.self.view_is ∙ shown_peaks c.args.self.now marks is
