-- The packet at the place of the lowest number is the first.
use Rattle.std.proofs.Common.{◌≡◌, ◌≤◌, Some, [], ap, sym, refl, ◌∙◌, arith}
use Rattle.std.proofs.lemmas.Bool.{leb-true}
use Rattle.std.specs.Prelude.{slice_index_or}
use Rattle.std.specs.List.{list_any}
use Rattle.receiver_rules.specs.Packets.{At, is_past_deadline}
use Rattle.reorder_buffer.specs.Inside.Ring.{Waiting, packet_of}
use Rattle.reorder_buffer.specs.declared.ring.Held.{Held}
use Rattle.reorder_buffer.proofs.RingLemmas.{place_at}
use Rattle.reorder_buffer.proofs.RingChangeLemmas.{ring_taken, read_place, some_held}
use Rattle.reorder_buffer.proofs.DueLemmas.{first_due}
use Rattle.reorder_buffer.proofs.ring.Ring.is_first_due.Goals as goal

pub returns-in-Some-index : goal.returns-in-Some-index
returns-in-Some-index c due =
    let r = c.self.invariant.ring in
    let low = c.self.invariant.inside in
    let at = c.self.invariant.stands c.in-Some.field-0 c.in-Some.is in
    let there : place_at c.self.inside.places.items c.self.inside.first ≡ Some c.in-Some-index.held = read_place c.self.inside.places.items c.self.inside.first c.index.result.now low c.index.ensures ∙ c.in-Some-index.is in
    let t = ring_taken c.self.inside.places.items c.self.inside.pool.items c.self.inside.index c.self.inside.ends c.self.inside.count c.self.inside.first c.in-Some.field-0 r c.in-Some.is at in
    let early : c.in-Some-index.held.deadline ≤ c.args.at = leb-true _ _ due in
    let same = ap (λ (h : Held). h.deadline) (some_held (sym there ∙ t.there)) in
    ap (λ (w : Waiting). list_any (is_past_deadline (At c.args.at)) w.packets) (sym c.self.view_is)
    ∙ ap (list_any (is_past_deadline (At c.args.at))) t.whole
    ∙ first_due c.args.at t.held.deadline (packet_of t.held (slice_index_or c.self.inside.pool.items c.self.inside.first [])) _ refl (omega (arith, early, same))
