-- The charts, one behind another.
use Rattle.std.proofs.Common.{List, ℕ, ap, take, ◌∙◌}
use Rattle.std.specs.Prelude.{codes}
use Rattle.session_figures.specs.Figures.{Figures}
use Rattle.session_figures.specs.Counting.{figures_seen}
use Rattle.report_page.specs.Page.{with_some_chart}
use Rattle.report_page.proofs.charts.put_drift_charts.Goals as goal

pub returns-clause-octets : goal.returns-clause-octets
returns-clause-octets c =
    let f : Figures = figures_seen c.args.figures.now in
    let later : List ℕ → ℕ → List ℕ = λ t n. with_some_chart t (codes "Drift to later") (codes "ticks") n f.later in
    let earlier : List ℕ → ℕ → List ℕ = λ t n. with_some_chart t (codes "Drift to earlier") (codes "ticks") n f.earlier in
    c.put_some.ensures.octets
    ∙ ap (earlier (take c.put_some-at.result c.put_some-at.new.out)) c.width-width.ensures.value
    ∙ ap (λ (t : List ℕ). earlier t f.width) (c.put_some-at.ensures.octets
    ∙ ap (later (take c.args.at c.args.out.now)) c.width-width.ensures.value)
