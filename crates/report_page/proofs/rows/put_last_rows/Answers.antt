-- The rows, one behind another.
use Rattle.std.proofs.Common.{List, ℕ, ap, take, ◌∙◌}
use Rattle.std.specs.Prelude.{codes}
use Rattle.html_parts.specs.Chart.{total_of}
use Rattle.html_parts.specs.Page.{with_row}
use Rattle.session_figures.specs.Figures.{Figures}
use Rattle.session_figures.specs.Counting.{figures_seen}
use Rattle.report_page.proofs.rows.put_last_rows.Goals as goal

pub returns-clause-octets : goal.returns-clause-octets
returns-clause-octets c =
    let f : Figures = figures_seen c.args.figures.now in
    let restarts : List ℕ → ℕ → List ℕ = λ t n. with_row t (codes "Restarts") n (codes "restarts") (codes "another flow took the place of the one before") in
    let bucket : List ℕ → ℕ → List ℕ = λ t n. with_row t (codes "Bucket") n (codes "s") (codes "of the charts below: 1 s, doubled until 4,096 are enough") in
    c.put_row.ensures.octets
    ∙ ap (bucket (take c.put_row-at.result c.put_row-at.new.out)) c.width-width.ensures.value
    ∙ ap (λ (t : List ℕ). bucket t f.width) (c.put_row-at.ensures.octets
    ∙ ap (restarts (take c.put_packets-at.result c.put_packets-at.new.out)) (c.total.ensures.value ∙ ap total_of c.points.ensures.value)
    ∙ ap (λ (t : List ℕ). restarts t (total_of f.restarts)) c.put_packets-at.ensures.octets)
