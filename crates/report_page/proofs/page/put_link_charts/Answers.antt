-- The charts of all links, one kind behind another.
use Rattle.std.proofs.Common.{ap, map, take, ◌∙◌, ◌^◌}
use Rattle.std.specs.Prelude.{codes}
use Rattle.time_series.specs.Points.{shown_points}
use Rattle.session_figures.specs.declared.table.Table.{Table}
use Rattle.report_page.proofs.PageLemmas.{all_taken, three_kinds}
use Rattle.report_page.proofs.page.put_link_charts.Goals as goal

pub returns-clause-octets : goal.returns-clause-octets
returns-clause-octets c has =
    let table : Table = c.args.figures.now.table.now in
    let links = all_taken table.links.items c.all_links.result.now (c.all_links.ensures.value ∙ ap (take 16) c.deref.ensures.value) has.octets in
    let firsts = all_taken table.first_links.items c.all_links-2.result.now (c.all_links-2.ensures.value ∙ ap (take 16) c.deref-2.ensures.value) has.first in
    let recovered = all_taken table.recovered_links.items c.all_links-3.result.now (c.all_links-3.ensures.value ∙ ap (take 16) c.deref-3.ensures.value) has.recovered in
    three_kinds (take c.args.at c.args.out.now) (take c.put_links-at.result c.put_links-at.new.out) (take c.put_links-at-2.result c.put_links-at-2.new.out) (take c.put_links.result c.put_links.new.out)
    (codes "Link ") (codes "First time, link ") (codes "Recovered, link ") (codes "octets") (codes "packets") (codes "packets") c.width-width.result (2 ^ table.kept.scale)
    (map shown_points c.all_links.result.now) (map shown_points c.all_links-2.result.now) (map shown_points c.all_links-3.result.now)
    (map shown_points table.links.items) (map shown_points table.first_links.items) (map shown_points table.recovered_links.items)
    c.width-width.ensures.value links firsts recovered c.put_links-at.ensures.octets c.put_links-at-2.ensures.octets c.put_links.ensures.octets
