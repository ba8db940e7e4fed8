-- Each turn writes the first packet below the floor, and the loop ends where there is none.
use Rattle.std.proofs.Common.{◌+◌, ◌<◌, length, arith, refl, sym, ap, ◌∙◌, subst}
use Rattle.outside_io.specs.Told.{Appends, AppendsPart}
use Rattle.receiver_rules.specs.Packets.{IsRising}
use Rattle.receiver_rules.proofs.PacketLemmas.{rising_lower}
use Rattle.receiver_rules.specs.Seen.{moment_of}
use Rattle.reorder_buffer.specs.Inside.Release.{floor_from}
use Rattle.reorder_buffer.specs.Inside.Ring.{floor_after_first, after_first}
use Rattle.reorder_buffer.proofs.DueLemmas.{due_starts, due_step, due_rising, due_end}
use Rattle.reorder_buffer.proofs.WriteLemmas.{Writes, writes_none, first_more, first_nothing, first_part, first_fits, first_fewer, first_end, on_err_always}
use Rattle.reorder_buffer.proofs.release.put_due.Goals as goal

pub loop-until-init : goal.loop-until-init
loop-until-init g c = (writes_none (floor_from c.args.from (moment_of c.args.until) c.args.ring.now.packets) _ _ (rising_lower 0 c.args.from c.args.ring.now.packets (omega arith) c.requires.rising), refl, refl, refl, c.requires.rising)

pub returns-in_err-put-clause-err : goal.returns-in_err-put-clause-err
returns-in_err-put-clause-err g c =
    on_err_always c.from_residual.result _ (first_part (floor_from c.args.from (moment_of c.args.until) c.args.ring.now.packets) _ (g.K.Sink.contents c.loop-until.sink) _ _ c.loop-until.ring.packets _ (sym (due_starts (moment_of c.args.until) c.loop-until.floor (floor_from c.args.from (moment_of c.args.until) c.args.ring.now.packets) c.loop-until.ring.packets c.loop-until.invariant.4 c.loop-until.invariant.3) ∙ sym c.is_any_due.ensures ∙ c.loop-until-test.true) c.loop-until.invariant.0
    (subst (AppendsPart (g.K.Sink.contents c.loop-until.sink) (g.K.Sink.contents c.put.new.sink)) c.first_payload.ensures c.in_err-put.ensures.err))

pub returns-in_err-put-clause-complete : goal.returns-in_err-put-clause-complete
returns-in_err-put-clause-complete g c none =
    let fine = c.in_err-put.ensures.complete (c.first_payload.ensures ∙ first_nothing (floor_from c.args.from (moment_of c.args.until) c.args.ring.now.packets) _ _ _ c.loop-until.ring.packets _ (sym (due_starts (moment_of c.args.until) c.loop-until.floor (floor_from c.args.from (moment_of c.args.until) c.args.ring.now.packets) c.loop-until.ring.packets c.loop-until.invariant.4 c.loop-until.invariant.3) ∙ sym c.is_any_due.ensures ∙ c.loop-until-test.true) c.loop-until.invariant.0 none) in
    cc

pub overflow_add-count : goal.overflow_add-count
overflow_add-count g c =
    let few = first_fits (floor_from c.args.from (moment_of c.args.until) c.args.ring.now.packets) _ _ c.args.ring.now.packets c.loop-until.ring.packets _ (sym (due_starts (moment_of c.args.until) c.loop-until.floor (floor_from c.args.from (moment_of c.args.until) c.args.ring.now.packets) c.loop-until.ring.packets c.loop-until.invariant.4 c.loop-until.invariant.3) ∙ sym c.is_any_due.ensures ∙ c.loop-until-test.true) c.loop-until.invariant.0 in
    omega (arith, few, c.requires.few)

pub loop-until-smaller : goal.loop-until-smaller
loop-until-smaller g c = subst (λ ps. length ps < length c.loop-until.ring.packets) (sym c.drop_first.ensures.packets) (first_fewer (floor_from c.args.from (moment_of c.args.until) c.args.ring.now.packets) c.loop-until.ring.packets (sym (due_starts (moment_of c.args.until) c.loop-until.floor (floor_from c.args.from (moment_of c.args.until) c.args.ring.now.packets) c.loop-until.ring.packets c.loop-until.invariant.4 c.loop-until.invariant.3) ∙ sym c.is_any_due.ensures ∙ c.loop-until-test.true))

pub loop-until-preserved : goal.loop-until-preserved
loop-until-preserved g c =
    let m = (moment_of c.args.until) in
    let due = (sym c.is_any_due.ensures ∙ c.loop-until-test.true) in (
      subst (λ ps. Writes (floor_from c.args.from (moment_of c.args.until) c.args.ring.now.packets) (g.K.Sink.contents c.args.sink.now) (g.K.Sink.contents c.put.new.sink) c.args.ring.now.packets ps (c.loop-until.count + 1)) (sym c.drop_first.ensures.packets)
          (first_more (floor_from c.args.from (moment_of c.args.until) c.args.ring.now.packets) _ (g.K.Sink.contents c.loop-until.sink) _ _ c.loop-until.ring.packets _ (sym (due_starts (moment_of c.args.until) c.loop-until.floor (floor_from c.args.from (moment_of c.args.until) c.args.ring.now.packets) c.loop-until.ring.packets c.loop-until.invariant.4 c.loop-until.invariant.3) ∙ sym c.is_any_due.ensures ∙ c.loop-until-test.true) c.loop-until.invariant.0
          (subst (Appends (g.K.Sink.contents c.loop-until.sink) (g.K.Sink.contents c.put.new.sink)) c.first_payload.ensures c.in_ok-put.ensures.ok)),
      c.in_ok-put.ensures.cause ∙ c.loop-until.invariant.1,
      c.drop_first.ensures.capacity ∙ c.loop-until.invariant.2,
      due_step m c.loop-until.floor (floor_from c.args.from (moment_of c.args.until) c.args.ring.now.packets) c.loop-until.ring.packets c.loop-until.invariant.4 c.loop-until.invariant.3 due
          ∙ ap (λ n. floor_from n m (after_first c.loop-until.ring.packets)) (sym c.floor_after_first-floor.ensures)
          ∙ ap (floor_from c.floor_after_first-floor.result m) (sym c.drop_first.ensures.packets),
      subst (λ n. IsRising n c.drop_first.new.self.packets) (sym c.floor_after_first-floor.ensures)
          (subst (IsRising (floor_after_first c.loop-until.ring.packets)) (sym c.drop_first.ensures.packets) (due_rising m c.loop-until.floor c.loop-until.ring.packets c.loop-until.invariant.4 due)),
    )

pub returns-clause-floor : goal.returns-clause-floor
returns-clause-floor g c = due_end (moment_of c.args.until) c.loop-until.floor (floor_from c.args.from (moment_of c.args.until) c.args.ring.now.packets) c.loop-until.ring.packets c.loop-until.invariant.3 (sym c.is_any_due.ensures ∙ c.loop-until-test.false)

pub returns-clause-rest : goal.returns-clause-rest
returns-clause-rest g c = (first_end (floor_from c.args.from (moment_of c.args.until) c.args.ring.now.packets) _ _ _ c.loop-until.ring.packets _ (sym (due_starts (moment_of c.args.until) c.loop-until.floor (floor_from c.args.from (moment_of c.args.until) c.args.ring.now.packets) c.loop-until.ring.packets c.loop-until.invariant.4 c.loop-until.invariant.3) ∙ sym c.is_any_due.ensures ∙ c.loop-until-test.false) c.loop-until.invariant.0).rest

pub returns-clause-ok : goal.returns-clause-ok
returns-clause-ok g c = (first_end (floor_from c.args.from (moment_of c.args.until) c.args.ring.now.packets) _ _ _ c.loop-until.ring.packets _ (sym (due_starts (moment_of c.args.until) c.loop-until.floor (floor_from c.args.from (moment_of c.args.until) c.args.ring.now.packets) c.loop-until.ring.packets c.loop-until.invariant.4 c.loop-until.invariant.3) ∙ sym c.is_any_due.ensures ∙ c.loop-until-test.false) c.loop-until.invariant.0).octets

pub returns-clause-count : goal.returns-clause-count
returns-clause-count g c = (first_end (floor_from c.args.from (moment_of c.args.until) c.args.ring.now.packets) _ _ _ c.loop-until.ring.packets _ (sym (due_starts (moment_of c.args.until) c.loop-until.floor (floor_from c.args.from (moment_of c.args.until) c.args.ring.now.packets) c.loop-until.ring.packets c.loop-until.invariant.4 c.loop-until.invariant.3) ∙ sym c.is_any_due.ensures ∙ c.loop-until-test.false) c.loop-until.invariant.0).counted
