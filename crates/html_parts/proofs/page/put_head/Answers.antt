-- The parts of the head, one behind another.
use Rattle.std.proofs.Common.{take}
use Rattle.html_parts.specs.Page.{head_line, title_line, table_line, chart_line, stroke_line, begin_line}
use Rattle.html_parts.proofs.ChartLemmas.{six_in_turn}
use Rattle.html_parts.proofs.page.put_head.Goals as goal

pub returns-clause-octets : goal.returns-clause-octets
returns-clause-octets c =
    six_in_turn (take c.args.at c.args.out.now) head_line title_line table_line chart_line stroke_line begin_line
    (take c.put_at-at.result c.put_at-at.new.out) (take c.put_at-at-2.result c.put_at-at-2.new.out) (take c.put_at-at-3.result c.put_at-at-3.new.out) (take c.put_at-at-4.result c.put_at-at-4.new.out)
    (take c.put_at-at-5.result c.put_at-at-5.new.out) (take c.put_at.result c.put_at.new.out) c.put_at-at.ensures.octets c.put_at-at-2.ensures.octets c.put_at-at-3.ensures.octets c.put_at-at-4.ensures.octets
    c.put_at-at-5.ensures.octets c.put_at.ensures.octets
