-- The packet stands at its own place, which was free.
use Rattle.std.proofs.Common.{◌≡◌, ℕ, ◌+◌, ◌%◌, ◌^◌, pos, Some, length, ap, sym, ◌∙◌, subst, arith, rules, FitsSigned, w64}
use Rattle.std.proofs.lemmas.Int.{to_z-of_z}
use Rattle.std.specs.Prelude.{◌==◌, nat_le, int_lt, true, slice_set}
use Rattle.std.specs.List.{list_any}
use Rattle.receiver_rules.specs.Packets.{distance, insert_by_number}
use Rattle.receiver_rules.specs.Seen.{packet_at}
use Rattle.reorder_buffer.specs.Inside.Ring.{Waiting, packets_in, IsStanding, ends_and}
use Rattle.reorder_buffer.specs.declared.ring.Held.{Held}
use Rattle.reorder_buffer.proofs.RingChangeLemmas.{ring_put_at, standing_put, few_count, abs_pos, put_packet, below_soon}
use lib.IntN.{nat_abs}
use mir.Val.{to_z, of_z}
use Rattle.reorder_buffer.proofs.ring.Ring.put.Goals as goal

pub overflow_add-self : goal.overflow_add-self
overflow_add-self c =
    let few = few_count c.self.inside.places.items c.self.inside.pool.items c.self.inside.index c.self.inside.ends c.self.inside.count c.self.invariant.ring in
    omega arith

pub invariant_of-self : goal.invariant_of-self
invariant_of-self c =
    let fits : FitsSigned w64 c.args.place.now.deadline = search rules in
    let d : ℕ = nat_abs (to_z w64 (of_z w64 c.args.place.now.deadline)) in
    let same : pos d ≡ c.args.place.now.deadline = ap (λ z. pos (nat_abs z)) (to_z-of_z w64 c.args.place.now.deadline fits) ∙ abs_pos c.args.place.now.deadline c.requires.positive in
    let held : Held = record { number = c.args.place.now.number; timestamp = c.args.place.now.timestamp; deadline = d; length = length c.args.payload.now } in
    let wide = ap (λ (w : Waiting). w.capacity) c.self.view_is in
    let at = c.place_of-free.ensures.value ∙ ap (λ n. c.args.place.now.number % n) (sym wide) in
    let ring = ring_put_at c.self.inside.places.items c.self.inside.pool.items c.self.inside.index c.self.inside.ends c.self.inside.count c.place_of-free.result held c.fill.new.block c.self.invariant.ring at c.requires.number
    (below_soon d (subst (λ z. int_lt z (pos (2 ^ 62)) ≡ true) (sym same) c.requires.soon)) c.requires.payload
    (ap (λ (w : Waiting). list_any (λ p. p.number == c.args.place.now.number) w.packets) c.self.view_is ∙ c.requires.new)
    (ap (λ (w : Waiting). list_any (λ p. nat_le w.capacity (distance p.number c.args.place.now.number)) w.packets) c.self.view_is ∙ c.requires.near) in
    let standing = standing_put c.self.inside.places.items c.self.inside.pool.items c.self.inside.index c.self.inside.ends c.self.inside.first c.self.inside.count d c.place_of-free.result c.first_with-self-inside.result c.args.place.now.number held c.fill.new.block
    c.self.invariant ring.1 at c.first_with-self-inside.ensures in
    subst (λ e. IsStanding (slice_set c.self.inside.places.items c.place_of-free.result (Some held)) (slice_set c.self.inside.pool.items c.place_of-free.result c.fill.new.block) c.set.new.self (Some e) c.first_with-self-inside.result (c.self.inside.count + 1)) (sym c.with_number.ensures)
    (subst (λ xs. IsStanding (slice_set c.self.inside.places.items c.place_of-free.result (Some held)) (slice_set c.self.inside.pool.items c.place_of-free.result c.fill.new.block) xs (Some (ends_and c.self.inside.ends c.args.place.now.number)) c.first_with-self-inside.result (c.self.inside.count + 1)) (sym c.set.ensures.value) standing)

pub returns-clause-packets : goal.returns-clause-packets
returns-clause-packets c =
    let fits : FitsSigned w64 c.args.place.now.deadline = search rules in
    let d : ℕ = nat_abs (to_z w64 (of_z w64 c.args.place.now.deadline)) in
    let same : pos d ≡ c.args.place.now.deadline = ap (λ z. pos (nat_abs z)) (to_z-of_z w64 c.args.place.now.deadline fits) ∙ abs_pos c.args.place.now.deadline c.requires.positive in
    let held : Held = record { number = c.args.place.now.number; timestamp = c.args.place.now.timestamp; deadline = d; length = length c.args.payload.now } in
    let wide = ap (λ (w : Waiting). w.capacity) c.self.view_is in
    let at = c.place_of-free.ensures.value ∙ ap (λ n. c.args.place.now.number % n) (sym wide) in
    let ring = ring_put_at c.self.inside.places.items c.self.inside.pool.items c.self.inside.index c.self.inside.ends c.self.inside.count c.place_of-free.result held c.fill.new.block c.self.invariant.ring at c.requires.number
    (below_soon d (subst (λ z. int_lt z (pos (2 ^ 62)) ≡ true) (sym same) c.requires.soon)) c.requires.payload
    (ap (λ (w : Waiting). list_any (λ p. p.number == c.args.place.now.number) w.packets) c.self.view_is ∙ c.requires.new)
    (ap (λ (w : Waiting). list_any (λ p. nat_le w.capacity (distance p.number c.args.place.now.number)) w.packets) c.self.view_is ∙ c.requires.near) in
    ring.0
    ∙ ap (λ p. insert_by_number p (packets_in c.self.inside.places.items c.self.inside.pool.items))
    (put_packet c.args.place.now.number c.args.place.now.timestamp d (length c.args.payload.now) c.args.place.now.deadline c.fill.new.block c.args.payload.now same c.fill.ensures)
    ∙ ap (λ (w : Waiting). insert_by_number (packet_at c.args.place.now c.args.payload.now) w.packets) c.self.view_is
