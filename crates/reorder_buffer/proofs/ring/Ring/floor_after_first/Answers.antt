-- The lowest number is no higher than the highest.
use Rattle.std.proofs.Common.{sym, ◌∙◌, arith}
use Rattle.reorder_buffer.specs.Inside.Ring.{packets_in}
use Rattle.reorder_buffer.proofs.SpanLemmas.{low_high}
use Rattle.reorder_buffer.proofs.ring.Ring.floor_after_first.Goals as goal

pub overflow_add-result : goal.overflow_add-result
overflow_add-result c =
    let high = c.self.invariant.ring.high c.in-Some.ends c.in-Some.is in
    let low = low_high (packets_in c.self.inside.places.items c.self.inside.pool.items) c.in-Some.ends (sym c.self.invariant.ring.bounded ∙ c.in-Some.is) c.self.invariant.ring.rising in
    omega arith
