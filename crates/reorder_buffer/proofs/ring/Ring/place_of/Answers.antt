-- The number is as many above the lowest as its place is after that of the lowest.
use Rattle.std.proofs.Common.{◌≡◌, ◌+◌, ◌-◌, ◌%◌, length, ap, sym, ◌∙◌, arith, rules}
use Rattle.reorder_buffer.specs.Inside.Ring.{Waiting}
use Rattle.reorder_buffer.proofs.ring.Ring.place_of.Goals as goal

pub returns-in-Some-clause-value : goal.returns-in-Some-clause-value
returns-in-Some-clause-value c =
    let low = c.in-Some.ends.low in
    let above : low + (c.args.number - low) ≡ c.args.number = let from = c.if-ends-number.true in omega arith in
    let long : c.len-count.result ≡ length c.self.inside.places.items = search rules in
    c.place_after.ensures.value low (c.self.invariant.stands c.in-Some.ends c.in-Some.is ∙ ap (λ n. low % n) (sym long))
    ∙ ap (λ n. n % c.len-count.result) above
    ∙ ap (λ n. c.args.number % n) (long ∙ ap (λ (w : Waiting). w.capacity) c.self.view_is)
