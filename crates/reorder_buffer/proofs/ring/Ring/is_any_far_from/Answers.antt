-- The lowest and the highest decide.
use Rattle.std.proofs.Common.{◌≡◌, ◌||◌, length, ap, sym, ◌∙◌}
use Rattle.std.specs.Prelude.{nat_le, false}
use Rattle.std.specs.List.{list_any}
use Rattle.receiver_rules.specs.Packets.{distance}
use Rattle.reorder_buffer.specs.Inside.Ring.{Waiting, packets_in}
use Rattle.reorder_buffer.proofs.SpanLemmas.{far_in}
use Rattle.reorder_buffer.proofs.ring.Ring.is_any_far_from.Goals as goal

pub returns-else-is_far : goal.returns-else-is_far
returns-else-is_far c =
    let r = c.self.invariant.ring in
    let far = far_in (length c.self.inside.places.items) c.args.number (packets_in c.self.inside.places.items c.self.inside.pool.items) c.in-Some.ends (sym r.bounded ∙ c.in-Some.is) r.rising in
    let wide = ap (λ (w : Waiting). w.capacity) c.self.view_is in
    let near : nat_le c.args.self.now.capacity (distance c.in-Some.ends.low c.args.number) ≡ false = sym c.is_far.ensures ∙ c.if-is_far.false in
    sym (ap (λ (w : Waiting). list_any (λ p. nat_le w.capacity (distance p.number c.args.number)) w.packets) (sym c.self.view_is)
    ∙ far
    ∙ ap (λ n. nat_le n (distance c.in-Some.ends.low c.args.number) || nat_le n (distance c.in-Some.ends.high c.args.number)) wide
    ∙ ap (λ b. b || nat_le c.args.self.now.capacity (distance c.in-Some.ends.high c.args.number)) near
    ∙ sym c.is_far-else-is_far.ensures)
