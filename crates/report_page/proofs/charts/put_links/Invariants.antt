-- the links so far
use Rattle.std.proofs.Common.{◌≡◌, ◌≤◌, ◌+◌, ◌*◌, map, take}
use Rattle.time_series.specs.Points.{shown_points}
use Rattle.report_page.specs.Page.{with_links}
use Rattle.report_page.specs.declared.charts.TheConstants.{TITLED_LEN}
use Rattle.report_page.proofs.charts.put_links.Given as goal

abbrev pub invariant-loop-link : goal.invariant-loop-link
invariant-loop-link l = record {
  octets : take l.end l.out ≡ with_links (take l.at l.fn.out) l.name l.unit l.width 0 (map shown_points (take l.link l.links));
  within : l.end ≤ l.at + TITLED_LEN * l.link;
}
