-- the rows so far
use Rattle.std.proofs.Common.{◌≡◌, ◌≤◌, ◌+◌, ◌*◌, map, take}
use Rattle.time_series.specs.Points.{shown_points}
use Rattle.report_page.specs.Page.{with_link_rows}
use Rattle.report_page.proofs.link_table.put_link_rows.Given as goal

abbrev pub invariant-loop-link : goal.invariant-loop-link
invariant-loop-link l = record {
  octets : take l.end l.out ≡ with_link_rows (take l.at l.fn.out) l.link (map shown_points l.links) (map shown_points l.firsts) (map shown_points l.recovered);
  within : l.end ≤ l.at + 220 * l.link;
}
