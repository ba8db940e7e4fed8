-- The rows, one behind another.
use Rattle.std.proofs.Common.{List, ℕ, ap, ◌∙◌}
use Rattle.std.specs.Prelude.{codes}
use Rattle.session_figures.specs.Figures.{Figures}
use Rattle.session_figures.specs.Counting.{figures_seen}
use Rattle.report_page.specs.Page.{with_some_row}
use Rattle.report_page.proofs.rows.put_drift_rows.Goals as goal

pub returns-clause-octets : goal.returns-clause-octets
returns-clause-octets c =
    let f : Figures = figures_seen c.args.figures.now in
    c.put_some.ensures.octets
    ∙ ap (λ (t : List ℕ). with_some_row t (codes "Drift to earlier") f.earlier (codes "ticks") (codes "of 1/90,000 s: as where it is fast")) c.put_some-at.ensures.octets
