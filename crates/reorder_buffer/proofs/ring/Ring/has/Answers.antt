-- A number stands at its own place alone.
use Rattle.std.proofs.Common.{◌≡◌, ◌%◌, ◌<◌, Some, None, length, ap, sym, ◌∙◌, subst}
use Rattle.std.specs.Prelude.{◌==◌}
use Rattle.std.specs.List.{list_any}
use Rattle.reorder_buffer.specs.Inside.Ring.{Waiting}
use Rattle.reorder_buffer.proofs.RingLemmas.{has_at, has_number, place_at}
use Rattle.reorder_buffer.proofs.RingChangeLemmas.{only_place, read_place}
use Rattle.reorder_buffer.proofs.ring.Ring.has.Goals as goal

pub returns-in-Some : goal.returns-in-Some
returns-in-Some c =
    let r = c.self.invariant.ring in
    let wide = ap (λ (w : Waiting). w.capacity) c.self.view_is in
    let at = c.place_of.ensures.value ∙ ap (λ n. c.args.number % n) (sym wide) in
    let low = subst (λ n. c.place_of.result < n) (sym wide) c.place_of.ensures.within in
    let there : place_at c.self.inside.places.items c.place_of.result ≡ Some c.in-Some.held = read_place c.self.inside.places.items c.place_of.result c.index.result.now low c.index.ensures ∙ c.in-Some.is in
    sym (ap (λ (w : Waiting). list_any (λ p. p.number == c.args.number) w.packets) (sym c.self.view_is)
    ∙ has_at (c.args.number % length c.self.inside.places.items) c.args.number c.self.inside.places.items c.self.inside.pool.items r.sized (only_place c.self.inside.places.items c.args.number r.placed)
    ∙ ap (λ k. has_number (place_at c.self.inside.places.items k) c.args.number) (sym at)
    ∙ ap (λ o. has_number o c.args.number) there)

pub returns-in-None : goal.returns-in-None
returns-in-None c =
    let r = c.self.invariant.ring in
    let wide = ap (λ (w : Waiting). w.capacity) c.self.view_is in
    let at = c.place_of.ensures.value ∙ ap (λ n. c.args.number % n) (sym wide) in
    let low = subst (λ n. c.place_of.result < n) (sym wide) c.place_of.ensures.within in
    let there : place_at c.self.inside.places.items c.place_of.result ≡ None = read_place c.self.inside.places.items c.place_of.result c.index.result.now low c.index.ensures ∙ c.in-None.is in
    sym (ap (λ (w : Waiting). list_any (λ p. p.number == c.args.number) w.packets) (sym c.self.view_is)
    ∙ has_at (c.args.number % length c.self.inside.places.items) c.args.number c.self.inside.places.items c.self.inside.pool.items r.sized (only_place c.self.inside.places.items c.args.number r.placed)
    ∙ ap (λ k. has_number (place_at c.self.inside.places.items k) c.args.number) (sym at)
    ∙ ap (λ o. has_number o c.args.number) there)
