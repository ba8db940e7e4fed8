-- The table and the charts, one behind another.
use Rattle.std.proofs.Common.{List, ℕ, ap, ◌∙◌}
use Rattle.session_figures.specs.Figures.{Figures}
use Rattle.session_figures.specs.Counting.{figures_seen}
use Rattle.report_page.specs.Page.{with_table, with_link_table, with_buffer_charts, with_came_charts, with_drift_charts, with_lost_charts}
use Rattle.report_page.proofs.page.put_front.Goals as goal

pub returns-clause-octets : goal.returns-clause-octets
returns-clause-octets c has =
    let f : Figures = figures_seen c.args.figures.now in
    c.put_drift_charts.ensures.octets
    ∙ ap (λ (t : List ℕ). with_drift_charts t f) (c.put_buffer_charts-at.ensures.octets
    ∙ ap (λ (t : List ℕ). with_buffer_charts t f) (c.put_lost_charts-at.ensures.octets
    ∙ ap (λ (t : List ℕ). with_lost_charts t f) (c.put_came_charts-at.ensures.octets
    ∙ ap (λ (t : List ℕ). with_came_charts t f) (c.put_link_table-at.ensures.octets has
    ∙ ap (λ (t : List ℕ). with_link_table t f.ticks f.links f.first_links f.recovered_links) (c.put_table-at.ensures.octets
    ∙ ap (λ (t : List ℕ). with_table t f) c.put_head-at.ensures.octets)))))
