-- The rows, one behind another.
use Rattle.std.proofs.Common.{List, ℕ, ap, take, ◌∙◌}
use Rattle.std.specs.Prelude.{codes}
use Rattle.html_parts.specs.Chart.{total_of}
use Rattle.html_parts.specs.Page.{with_row}
use Rattle.session_figures.specs.Figures.{Figures}
use Rattle.session_figures.specs.Counting.{figures_seen}
use Rattle.report_page.specs.Page.{rate_of}
use Rattle.report_page.proofs.rows.put_sent_rows.Goals as goal

pub returns-clause-octets : goal.returns-clause-octets
returns-clause-octets c =
    let f : Figures = figures_seen c.args.figures.now in
    let kept = c.total-kept.ensures.value ∙ ap total_of c.points.ensures.value in
    let rate : List ℕ → ℕ → List ℕ = λ t n. with_row t (codes "Rate") n (codes "kbit/s") (codes "octets written, over the length") in
    let written : List ℕ → ℕ → List ℕ = λ t n. with_row t (codes "Written") n (codes "octets") (codes "payloads kept, null packets restored") in
    let sent : List ℕ → List ℕ = λ t. with_row t (codes "Sent") f.sent (codes "packets") (codes "numbers from the lowest kept to the highest, flow by flow") in
    c.put_row.ensures.octets
    ∙ ap sent (c.put_row-at-3.ensures.octets
    ∙ ap (written (take c.put_row-at-2.result c.put_row-at-2.new.out)) kept
    ∙ ap (λ (t : List ℕ). written t (total_of f.kept)) (c.put_row-at-2.ensures.octets
    ∙ ap (rate (take c.put_row-at.result c.put_row-at.new.out)) (c.rate_of.ensures.value ∙ ap (λ (n : ℕ). rate_of n f.ticks) kept)
    ∙ ap (λ (t : List ℕ). rate t (rate_of (total_of f.kept) f.ticks)) c.put_row-at.ensures.octets))
