-- The rows, one behind another.
use Rattle.std.proofs.Common.{List, ℕ, Bool, ap, sym, take, ◌∙◌}
use Rattle.std.specs.Prelude.{codes, if◌then◌else◌}
use Rattle.std.proofs.lemmas.Bool.{ne_eqb}
use Rattle.html_parts.specs.Page.{with_row}
use Rattle.value_histogram.specs.declared.spread.Spread.{Spread}
use Rattle.report_page.proofs.rows.put_trip_rows.Goals as goal

pub returns-clause-octets : goal.returns-clause-octets
returns-clause-octets c =
    let t : Spread = c.args.trips.now in
    let text : List ℕ = take c.args.at c.args.out.now in
    let count : List ℕ → List ℕ = λ o. with_row o (codes "Round trips") t.count (codes "samples") (codes "responses to requests of at most ten seconds before") in
    let least : List ℕ → List ℕ = λ o. with_row o (codes "Round trip, least") t.least (codes "ms") (codes "from the moment in the response to its coming, less its delay") in
    let median : List ℕ → List ℕ = λ o. with_row o (codes "Round trip, median") t.median (codes "ms") (codes "at most half are greater") in
    let most : List ℕ → List ℕ = λ o. with_row o (codes "Round trip, most") t.greatest (codes "ms") (codes "none is greater") in
    c.put_row.ensures.octets
    ∙ ap most (c.put_row-at-3.ensures.octets ∙ ap median (c.put_row-at-2.ensures.octets ∙ ap least c.put_row-at.ensures.octets))
    ∙ sym (ap (λ (b : Bool). if b then text else most (median (least (count text)))) (ne_eqb t.count 0 c.if-trips-eq0.false))
