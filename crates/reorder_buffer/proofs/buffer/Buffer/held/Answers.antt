-- No more packets wait than the span has places.
use Rattle.std.proofs.Common.{ap, arith}
use Rattle.reorder_buffer.specs.State.{State}
use Rattle.reorder_buffer.proofs.ReleaseLemmas.{few_held}
use Rattle.reorder_buffer.proofs.buffer.Buffer.held.Goals as goal

pub returns-clause-within : goal.returns-clause-within
returns-clause-within c =
    let i = c.self.invariant.state in
    let few = few_held c.self.inside.limits.capacity c.self.inside.floor c.self.inside.ring.packets i.limits.some i.rising i.within in
    let same = ap (λ (b : State). b.limits.capacity) c.self.view_is in
    omega (arith, few, same, c.count.ensures)
