-- A packet that is kept may wait, and counts as one that does.
use Rattle.std.proofs.Common.{◌≡◌, ◌+◌, ◌∙◌, ◌&&◌, not, cond, ap, sym, subst, length, false}
use Rattle.receiver_rules.specs.declared.anchor.Anchor.{Anchor}
use Rattle.receiver_rules.specs.Seen.{seen}
use Rattle.receiver_rules.specs.Bounds.{IsNearBase, IsClockWithin}
use Rattle.receiver_rules.proofs.BoundLemmas.{start_is}
use Rattle.receiver_rules.specs.Packets.{is_kept}
use Rattle.receiver_rules.specs.Seen.{packet_at}
use Rattle.reorder_buffer.specs.State.{State}
use Rattle.reorder_buffer.proofs.HeldLemmas.{within_held}
use Rattle.reorder_buffer.proofs.StateAfterLemmas.{admissible}
use Rattle.reorder_buffer.proofs.buffer.Buffer.take_in_epoch.Goals.{then-is_kept, else-is_kept}
use Rattle.reorder_buffer.proofs.buffer.Buffer.take_in_epoch.Goals as goal

pub hold-requires-clause-fits : goal.hold-requires-clause-fits
hold-requires-clause-fits c =
    let time = ap (λ (a : Anchor). a.time) c.anchor_for-anchor.ensures.value ∙ start_is c.args.self.now.anchor c.args.at (seen c.args.arrival.now) in
    let near = subst (λ t. IsNearBase t c.clock_for-clock.result.base) (sym time) c.clock_for-clock.ensures.base in
    admissible c.args.self.now c.anchor_for-anchor.result c.clock_for-clock.result.base c.args.at (seen c.args.arrival.now) c.place-place.result c.args.arrival.now.payload.now c.place-place.ensures.limits c.anchor_for-anchor.ensures.early near c.requires.tick
    c.place-place.ensures.place (ap is_kept (sym c.verdict-verdict.ensures) ∙ sym c.is_kept.ensures ∙ c.if-is_kept.true)

pub move_to-requires-clause-within : goal.move_to-requires-clause-within
move_to-requires-clause-within c =
    let time = ap (λ (a : Anchor). a.time) c.anchor_for-anchor.ensures.value ∙ start_is c.args.self.now.anchor c.args.at (seen c.args.arrival.now) in
    let n = c.args.self.now.floor + length c.args.self.now.held in
    let within = c.clock_with-clock.ensures.within n (subst (λ t. IsClockWithin t n c.clock_for-clock.result) (sym time) c.clock_for-clock.ensures.within) in
    elim c.if-is_kept.branch [
      | then-is_kept w ↦
          subst (λ (b : State). IsClockWithin c.anchor_for-anchor.result.time (b.floor + length b.held) c.clock_with-clock.result) (sym (w.self-is ∙ w.hold.ensures))
          (within_held c.args.self.now (packet_at c.place-place.result c.args.arrival.now.payload.now) c.anchor_for-anchor.result.time c.clock_with-clock.result c.counts-counts.result within)
      | else-is_kept w ↦
          let counts : c.counts-counts.result ≡ false = c.counts-counts.ensures ∙ ap (λ b. b && not c.args.arrival.now.again) (sym c.is_kept.ensures ∙ w.if-is_kept.false) in
          subst (λ (b : State). IsClockWithin c.anchor_for-anchor.result.time (b.floor + length b.held) c.clock_with-clock.result) (sym w.self-is)
          (subst (λ b. IsClockWithin c.anchor_for-anchor.result.time (cond b (n + 1) n) c.clock_with-clock.result) counts within)
    ]
