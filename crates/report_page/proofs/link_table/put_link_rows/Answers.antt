-- One row more.
use Rattle.std.proofs.Common.{map, take, arith}
use Rattle.time_series.specs.Points.{shown_points}
use Rattle.report_page.proofs.PageLemmas.{no_rows, rows_more}
use Rattle.report_page.proofs.link_table.put_link_rows.Goals as goal

pub loop-link-init : goal.loop-link-init
loop-link-init c = record {
  octets = no_rows (take c.args.at c.args.out.now) (map shown_points c.args.links.now) (map shown_points c.args.firsts.now) (map shown_points c.args.recovered.now);
  within = omega arith;
}

pub loop-link-preserved : goal.loop-link-preserved
loop-link-preserved c = record {
  octets = rows_more (take c.args.at c.args.out.now) c.loop-link.link (map shown_points c.args.links.now) (map shown_points c.args.firsts.now) (map shown_points c.args.recovered.now)
      (take c.loop-link.end c.loop-link.out) (take c.put_link_row-end.result c.put_link_row-end.new.out) c.total_at-octets.result c.total_at-first.result c.total_at-again.result c.loop-link.invariant.octets
      c.total_at-octets.ensures.value c.total_at-first.ensures.value c.total_at-again.ensures.value c.put_link_row-end.ensures.octets;
  within = omega (arith, c.put_link_row-end.ensures.within, c.loop-link.invariant.within);
}
