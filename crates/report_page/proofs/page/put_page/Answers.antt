-- All links are shown, behind the front.
use Rattle.std.proofs.Common.{List, ℕ, ap, ◌∙◌}
use Rattle.html_parts.specs.Page.{with_foot}
use Rattle.session_figures.specs.Figures.{Figures}
use Rattle.session_figures.specs.Counting.{figures_seen}
use Rattle.report_page.specs.Page.{with_link_charts}
use Rattle.report_page.proofs.page.put_page.Goals as goal

pub returns-clause-octets : goal.returns-clause-octets
returns-clause-octets c has =
    let f : Figures = figures_seen c.args.figures.now in
    c.put_foot.ensures.octets
    ∙ ap with_foot (c.put_link_charts-at.ensures.octets has
    ∙ ap (λ (t : List ℕ). with_link_charts t f) (c.put_front-at.ensures.octets has))
