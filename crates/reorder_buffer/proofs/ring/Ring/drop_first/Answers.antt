-- The place of the lowest number is free.
use Rattle.std.proofs.Common.{◌≡◌, ◌+◌, ◌%◌, ◌-◌, None, length, ap, sym, ◌∙◌, subst, arith}
use Rattle.std.specs.Prelude.{slice_set, unwrap_or}
use Rattle.std.specs.Option.{ForSome, option_map}
use Rattle.reorder_buffer.specs.Inside.Ring.{Waiting, packets_in, after_first, first_number, IsStanding, ends_from}
use Rattle.reorder_buffer.specs.declared.places.Standing.{Standing}
use Rattle.receiver_rules.specs.Packets.{IsRising}
use Rattle.reorder_buffer.specs.Inside.Around.{IsAround}
use Rattle.reorder_buffer.proofs.RingChangeLemmas.{ring_around, raised_around, ring_taken, ring_dropped, standing_dropped}
use Rattle.reorder_buffer.proofs.SpanLemmas.{low_high}
use Rattle.reorder_buffer.proofs.ring.Ring.drop_first.Goals as goal

pub overflow_add-ends : goal.overflow_add-ends
overflow_add-ends c =
    let high = c.self.invariant.ring.high c.in-Some.ends c.in-Some.is in
    let low = low_high (packets_in c.self.inside.places.items c.self.inside.pool.items) c.in-Some.ends (sym c.self.invariant.ring.bounded ∙ c.in-Some.is) c.self.invariant.ring.rising in
    omega arith

pub lowest_from-lowest-requires-clause-around : goal.lowest_from-lowest-requires-clause-around
lowest_from-lowest-requires-clause-around c =
    let low = c.self.invariant.inside in
    let at = c.self.invariant.stands c.in-Some.ends c.in-Some.is in
    let a = raised_around c.in-Some.ends.low c.self.inside.places.items c.self.inside.index c.self.inside.first low at
    (ring_around c.self.inside.places.items c.self.inside.pool.items c.self.inside.index c.self.inside.ends c.self.inside.count c.in-Some.ends c.self.invariant.ring c.in-Some.is) in
    subst (λ xs. IsAround (c.in-Some.ends.low + 1) xs c.set.new.self) (sym c.deref.ensures.value)
    (subst (IsAround (c.in-Some.ends.low + 1) (slice_set c.self.inside.places.items c.self.inside.first None)) (sym c.set.ensures.value) a)

pub invariant_of-self : goal.invariant_of-self
invariant_of-self c =
    let places = slice_set c.self.inside.places.items c.self.inside.first None in
    let number = option_map (λ (s : Standing). s.number) c.lowest_from-lowest.result in
    let at = c.self.invariant.stands c.in-Some.ends c.in-Some.is in
    let dropped = ring_dropped c.self.inside.places.items c.self.inside.pool.items c.self.inside.index c.self.inside.ends c.self.inside.count c.self.inside.first c.in-Some.ends number c.self.invariant.ring c.in-Some.is at
    (subst (λ xs. length c.self.inside.pool.items ≡ length xs → IsRising 0 (packets_in xs c.self.inside.pool.items) → number ≡ first_number (packets_in xs c.self.inside.pool.items)) c.deref.ensures.value (c.lowest_from-lowest.ensures.number c.self.inside.pool.items)) in
    let standing = standing_dropped c.self.inside.places.items c.self.inside.pool.items c.self.inside.index c.self.inside.ends c.self.inside.first c.self.inside.count c.in-Some.ends.high c.lowest_from-lowest.result c.self.invariant dropped
    (subst (λ xs. ForSome c.lowest_from-lowest.result (λ s. s.place ≡ s.number % length xs)) c.deref.ensures.value c.lowest_from-lowest.ensures.place) in
    subst (λ k. IsStanding places c.self.inside.pool.items c.set.new.self c.ends_from-self-inside.result k (c.self.inside.count - 1)) (sym c.first_from-self-inside.ensures)
    (subst (λ o. IsStanding places c.self.inside.pool.items c.set.new.self o (unwrap_or (option_map (λ (s : Standing). s.place) c.lowest_from-lowest.result) c.self.inside.first) (c.self.inside.count - 1)) (sym c.ends_from-self-inside.ensures)
    (subst (λ xs. IsStanding places c.self.inside.pool.items xs (ends_from number c.in-Some.ends.high) (unwrap_or (option_map (λ (s : Standing). s.place) c.lowest_from-lowest.result) c.self.inside.first) (c.self.inside.count - 1)) (sym c.set.ensures.value) standing))

pub returns-clause-packets : goal.returns-clause-packets
returns-clause-packets c =
    let at = c.self.invariant.stands c.in-Some.ends c.in-Some.is in
    let t = ring_taken c.self.inside.places.items c.self.inside.pool.items c.self.inside.index c.self.inside.ends c.self.inside.count c.self.inside.first c.in-Some.ends c.self.invariant.ring c.in-Some.is at in
    ap after_first (sym t.whole) ∙ ap (λ (w : Waiting). after_first w.packets) c.self.view_is
