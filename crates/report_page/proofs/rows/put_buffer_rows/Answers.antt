-- The rows, one behind another.
use Rattle.std.proofs.Common.{List, ℕ, ap, take, ◌∙◌}
use Rattle.std.specs.Prelude.{codes}
use Rattle.html_parts.specs.Chart.{greatest_of}
use Rattle.html_parts.specs.Page.{with_row}
use Rattle.session_figures.specs.Figures.{Figures}
use Rattle.session_figures.specs.Counting.{figures_seen}
use Rattle.report_page.proofs.rows.put_buffer_rows.Goals as goal

pub returns-clause-octets : goal.returns-clause-octets
returns-clause-octets c =
    let f : Figures = figures_seen c.args.figures.now in
    let fill : List ℕ → ℕ → List ℕ = λ t n. with_row t (codes "Buffer, most") n (codes "ms") (codes "how far ahead the packet with the highest number was due") in
    let used : List ℕ → ℕ → List ℕ = λ t n. with_row t (codes "Delay used, most") n (codes "ms") (codes "of the playout delay: what the buffer lacked of it before a packet that was kept") in
    c.put_row.ensures.octets
    ∙ ap (used (take c.put_row-at.result c.put_row-at.new.out)) (c.greatest-2.ensures.value ∙ ap greatest_of c.points-2.ensures.value)
    ∙ ap (λ (t : List ℕ). used t (greatest_of f.used)) (c.put_row-at.ensures.octets
    ∙ ap (fill (take c.args.at c.args.out.now)) (c.greatest.ensures.value ∙ ap greatest_of c.points.ensures.value))
