-- No more packets wait than the span has places, and those that stay are as sound as before.
use Rattle.std.proofs.Common.{ap, sym, subst, arith, ◌∙◌, length}
use Rattle.std.specs.List.{filter}
use Rattle.receiver_rules.specs.Packets.{is_below}
use Rattle.receiver_rules.specs.Seen.{moment_of}
use Rattle.reorder_buffer.specs.State.{State}
use Rattle.reorder_buffer.specs.Inside.Shown.{state_of}
use Rattle.reorder_buffer.specs.Inside.Release.{floor_then}
use Rattle.reorder_buffer.specs.Inside.Sound.{IsSound}
use Rattle.reorder_buffer.proofs.ReleaseLemmas.{few_held, floor_then_rises, floor_then_small, sound-raised}
use Rattle.reorder_buffer.proofs.buffer.Buffer.let_out.Goals as goal

pub put_due-requires-clause-few : goal.put_due-requires-clause-few
put_due-requires-clause-few g c =
    let i = c.self.invariant.state in
    let few = few_held c.self.inside.limits.capacity c.self.inside.floor c.self.inside.ring.packets i.limits.some i.rising i.within in
    omega (arith, few, i.limits.capacity)

pub invariant_of-self : goal.invariant_of-self
invariant_of-self g c =
    let b = state_of c.self.inside in
    let m = moment_of c.args.until in
    let floor = floor_then b m in
    record {
      state = subst (λ n. IsSound (record { limits = b.limits; phase = b.phase; time = b.time; anchor = b.anchor; highest = b.highest; floor = n; held = c.put_due.new.ring.packets; last = b.last; epoch = b.epoch; clock = b.clock })) (sym c.in-Ok.ensures.floor)
          (subst (λ packets. IsSound (record { limits = b.limits; phase = b.phase; time = b.time; anchor = b.anchor; highest = b.highest; floor = floor; held = packets; last = b.last; epoch = b.epoch; clock = b.clock }))
          (sym c.in-Ok.ensures.rest)
          (sound-raised b floor (floor_then_rises b m) (floor_then_small b m c.self.invariant.state) c.self.invariant.state));
      places = c.put_due.ensures.capacity ∙ c.self.invariant.places;
    }

pub returns-in-Ok-clause-count : goal.returns-in-Ok-clause-count
returns-in-Ok-clause-count g c = c.in-Ok.ensures.count ∙ ap (λ (b : State). length (filter (is_below (floor_then b (moment_of c.args.until))) b.held)) c.self.view_is
