-- Nothing waits at first.
use Rattle.std.proofs.Common.{◌≡◌, length, rules}
use Rattle.reorder_buffer.proofs.RingChangeLemmas.{ring_none, standing_none}
use Rattle.reorder_buffer.proofs.ring.Ring.with_places.Goals as goal

pub invariant_of-result : goal.invariant_of-result
invariant_of-result c =
    let blocks : length c.resize.new.self.items ≡ c.args.capacity = search rules in
    standing_none c.args.capacity c.in_ok-places.places.items c.resize.new.self.items c.in_ok-index.index c.requires.0 c.in_ok-places.ensures
    (ring_none c.args.capacity c.in_ok-places.places.items c.resize.new.self.items c.in_ok-index.index c.requires.0 c.requires.1 c.in_ok-places.ensures blocks c.in_ok-index.ensures.value).1

pub returns-clause-packets : goal.returns-clause-packets
returns-clause-packets c =
    let blocks : length c.resize.new.self.items ≡ c.args.capacity = search rules in
    (ring_none c.args.capacity c.in_ok-places.places.items c.resize.new.self.items c.in_ok-index.index c.requires.0 c.requires.1 c.in_ok-places.ensures blocks c.in_ok-index.ensures.value).0
