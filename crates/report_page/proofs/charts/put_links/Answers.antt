-- One link more.
use Rattle.std.proofs.Common.{◌∙◌, take, ap, arith}
use Rattle.time_series.specs.Points.{SeriesState, shown_points}
use Rattle.report_page.specs.Page.{with_link}
use Rattle.report_page.proofs.PageLemmas.{links_more}
use Rattle.report_page.proofs.charts.put_links.Goals as goal

pub loop-link-preserved : goal.loop-link-preserved
loop-link-preserved c = record {
  octets = links_more c.args.links.now c.index-links-link.result c.loop-link.link c.args.width c.args.name.now c.args.unit.now (take c.args.at c.args.out.now) (take c.loop-link.end c.loop-link.out) (take c.put_link-end.result c.put_link-end.new.out)
      c.loop-link-test.true c.loop-link.invariant.octets
      (c.put_link-end.ensures.octets ∙ ap (λ (s : SeriesState). with_link (take c.loop-link.end c.loop-link.out) c.args.name.now c.args.unit.now c.args.width c.loop-link.link (shown_points s)) c.index-links-link.is);
  within = omega (arith, c.put_link-end.ensures.within, c.loop-link.invariant.within);
}
