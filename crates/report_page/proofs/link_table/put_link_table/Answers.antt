-- All links have a row.
use Rattle.std.proofs.Common.{ℕ, List, ap, length, map, take, ◌∙◌}
use Rattle.std.specs.Prelude.{codes}
use Rattle.time_series.specs.Points.{shown_points}
use Rattle.session_figures.specs.declared.table.Table.{Table}
use Rattle.report_page.specs.Page.{with_reading}
use Rattle.report_page.proofs.PageLemmas.{all_count, all_taken, whole_table}
use Rattle.report_page.proofs.link_table.put_link_table.Goals as goal

pub returns-clause-octets : goal.returns-clause-octets
returns-clause-octets c has =
    let table : Table = c.args.table.now in
    let given = c.all_links.ensures.value ∙ ap (take 16) c.deref.ensures.value in
    let links = all_taken table.links.items c.all_links.result.now given has.octets in
    let firsts = all_taken table.first_links.items c.all_links-2.result.now (c.all_links-2.ensures.value ∙ ap (take 16) c.deref-2.ensures.value) has.first in
    let recovered = all_taken table.recovered_links.items c.all_links-3.result.now (c.all_links-3.ensures.value ∙ ap (take 16) c.deref-3.ensures.value) has.recovered in
    c.put_note.ensures.octets ∙ ap (λ (t : List ℕ). with_reading t c.args.ticks) (whole_table (take c.args.at c.args.out.now) (take c.put_columns-at.result c.put_columns-at.new.out) (take c.put_link_rows-at.result c.put_link_rows-at.new.out) (take c.put_table_end-at.result c.put_table_end-at.new.out)
    (codes "Link") (codes "Octets") (codes "First time") (codes "Recovered") (length c.all_links.result.now)
    (map shown_points c.all_links.result.now) (map shown_points c.all_links-2.result.now) (map shown_points c.all_links-3.result.now)
    (map shown_points table.links.items) (map shown_points table.first_links.items) (map shown_points table.recovered_links.items)
    (all_count table.links.items c.all_links.result.now given has.octets) links firsts recovered c.put_columns-at.ensures.octets c.put_link_rows-at.ensures.octets c.put_table_end-at.ensures.octets)
