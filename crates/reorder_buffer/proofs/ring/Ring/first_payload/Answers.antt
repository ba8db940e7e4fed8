-- The front of the block of the lowest number's place.
use Rattle.std.proofs.Common.{◌≡◌, Some, None, take, [], ap, sym, ◌∙◌, arith}
use Rattle.std.specs.Prelude.{slice_index_or}
use Rattle.std.proofs.lemmas.List.{get_or_read}
use Rattle.reorder_buffer.specs.Inside.Ring.{Waiting, first_payload}
use Rattle.reorder_buffer.specs.declared.ring.Held.{Held}
use Rattle.reorder_buffer.proofs.RingLemmas.{place_at}
use Rattle.reorder_buffer.proofs.RingChangeLemmas.{ring_taken, read_place, some_held, not_there}
use Rattle.reorder_buffer.proofs.ring.Ring.first_payload.Goals as goal

pub shared_ref_as_front-result : goal.shared_ref_as_front-result
shared_ref_as_front-result c =
    let low = c.self.invariant.inside in
    let there : place_at c.self.inside.places.items c.self.inside.first ≡ Some c.in-Some-index.held = read_place c.self.inside.places.items c.self.inside.first c.index.result.now low c.index.ensures ∙ c.in-Some-index.is in
    (c.self.invariant.ring.placed c.self.inside.first c.in-Some-index.held there).length

pub returns-in-Some-index : goal.returns-in-Some-index
returns-in-Some-index c =
    let r = c.self.invariant.ring in
    let low = c.self.invariant.inside in
    let at = c.self.invariant.stands c.in-Some.field-0 c.in-Some.is in
    let there : place_at c.self.inside.places.items c.self.inside.first ≡ Some c.in-Some-index.held = read_place c.self.inside.places.items c.self.inside.first c.index.result.now low c.index.ensures ∙ c.in-Some-index.is in
    let t = ring_taken c.self.inside.places.items c.self.inside.pool.items c.self.inside.index c.self.inside.ends c.self.inside.count c.self.inside.first c.in-Some.field-0 r c.in-Some.is at in
    let block : c.index-in-Some-index.result.now ≡ slice_index_or c.self.inside.pool.items c.self.inside.first [] = get_or_read c.self.inside.pool.items c.self.inside.first c.index-in-Some-index.result.now (omega (arith, low, r.sized)) c.index-in-Some-index.ensures [] in
    ap (λ xs. take c.in-Some-index.held.length xs) block
    ∙ ap (λ (h : Held). take h.length (slice_index_or c.self.inside.pool.items c.self.inside.first [])) (some_held (sym there ∙ t.there))
    ∙ ap first_payload (sym t.whole)
    ∙ ap (λ (w : Waiting). first_payload w.packets) c.self.view_is

pub returns-in-None : goal.returns-in-None
returns-in-None c =
    let r = c.self.invariant.ring in
    let low = c.self.invariant.inside in
    let at = c.self.invariant.stands c.in-Some.field-0 c.in-Some.is in
    let there : place_at c.self.inside.places.items c.self.inside.first ≡ None = read_place c.self.inside.places.items c.self.inside.first c.index.result.now low c.index.ensures ∙ c.in-None.is in
    let t = ring_taken c.self.inside.places.items c.self.inside.pool.items c.self.inside.index c.self.inside.ends c.self.inside.count c.self.inside.first c.in-Some.field-0 r c.in-Some.is at in
    absurd (not_there (sym there ∙ t.there))
