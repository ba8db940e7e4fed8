-- The rows, one behind another.
use Rattle.std.proofs.Common.{List, ℕ, ap, ◌∙◌}
use Rattle.std.specs.Prelude.{codes}
use Rattle.session_figures.specs.Figures.{Figures}
use Rattle.session_figures.specs.Counting.{figures_seen}
use Rattle.report_page.specs.Page.{with_packets}
use Rattle.report_page.proofs.rows.put_came_rows.Goals as goal

pub returns-clause-octets : goal.returns-clause-octets
returns-clause-octets c =
    let f : Figures = figures_seen c.args.figures.now in
    c.put_packets.ensures.octets
    ∙ ap (λ (t : List ℕ). with_packets t (codes "Never written") f.missing (codes "numbers passed without a packet")) (c.put_packets-at-2.ensures.octets
    ∙ ap (λ (t : List ℕ). with_packets t (codes "Recovered") f.recovered (codes "kept, and a retransmission")) c.put_packets-at.ensures.octets)
