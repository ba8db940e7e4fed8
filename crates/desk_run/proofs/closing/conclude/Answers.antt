-- The clauses of the desk and of its end, together.
use Rattle.std.proofs.Common.{sym, ◌∙◌, ap, subst}
use Rattle.outside_io.specs.Causes.{RoseWhere}
use Rattle.rist_desk.specs.Desk.{DeskState, state_of}
use Rattle.desk_run.specs.Receiving.{own_lists}
use Rattle.desk_run.specs.Inside.Deciding.{has_fault, has_failed}
use Rattle.std.specs.Prelude.{reverse}
use Rattle.desk_run.proofs.EndLemmas.{fault_is, room_by, Finished, received_by, torn_by}
use Rattle.desk_run.proofs.closing.conclude.Goals as goal

pub returns-clause-fault : goal.returns-clause-fault
returns-clause-fault g c =
    let new : DeskState = state_of c.finish-answer.result.1 (g.T.Trace.list c.finish-answer.result.2) (g.T.Trace.limit c.finish-answer.result.2) (g.K.Sink.contents c.finish-answer.result.3) (g.K.Sink.faults c.finish-answer.result.3) in
    let read = c.has_fault-failed.ensures.value ∙ ap (λ l. has_fault (reverse l)) c.kept-2.ensures.value in
    let rose = fault_is g.N.DeskOrigin.given c.args.desk new c.has_fault-failed.result c.finish-answer.result.0 c.kept.ensures.desk c.finish-answer.ensures.full read c.finish-answer.ensures.same c.finish-answer.ensures.cause in
    subst (λ b. RoseWhere b g.N.DeskOrigin.given.faults new.faults) (sym (c.ending_of-ending.ensures.fault ∙ ap has_failed c.last_of.ensures.value)) rose

pub returns-clause-full : goal.returns-clause-full
returns-clause-full g c is =
    let new : DeskState = state_of c.finish-answer.result.1 (g.T.Trace.list c.finish-answer.result.2) (g.T.Trace.limit c.finish-answer.result.2) (g.K.Sink.contents c.finish-answer.result.3) (g.K.Sink.faults c.finish-answer.result.3) in
    let h = c.ending_of-ending.ensures.full is in
    record {
      paired = h.0;
      room = room_by g.N.DeskOrigin.given c.args.desk new c.has_fault-failed.result c.finish-answer.result.0 _ _ c.kept.ensures.desk c.finish-answer.ensures.full c.finish-answer.ensures.same c.last_of.ensures.value h.1;
    }

pub returns-clause-torn : goal.returns-clause-torn
returns-clause-torn g c tear is =
    let new : DeskState = state_of c.finish-answer.result.1 (g.T.Trace.list c.finish-answer.result.2) (g.T.Trace.limit c.finish-answer.result.2) (g.K.Sink.contents c.finish-answer.result.3) (g.K.Sink.faults c.finish-answer.result.3) in
    let f : Finished g.N.DeskOrigin.given c.args.desk new c.has_fault-failed.result c.finish-answer.result.0 c.finish-answer.new.outs c.kept.result.now =
    record { desk = c.kept.ensures.desk; full = c.finish-answer.ensures.full; kept = c.finish-answer.ensures.kept; stands = c.finish-answer.ensures.stands; read_is = c.kept.ensures.value } in
    let h = c.ending_of-ending.ensures.torn tear is in
    (h.0, torn_by g.N.DeskOrigin.given c.args.desk new c.has_fault-failed.result c.finish-answer.result.0 c.finish-answer.new.outs c.kept.result.now (own_lists g.U.Trace.list c.args.workers.now) c.compare-tear.result tear f (c.compare-tear.ensures.some tear) (sym c.last_of.ensures.value ∙ h.1) h.2)

pub returns-clause-down : goal.returns-clause-down
returns-clause-down g c is =
    let new : DeskState = state_of c.finish-answer.result.1 (g.T.Trace.list c.finish-answer.result.2) (g.T.Trace.limit c.finish-answer.result.2) (g.K.Sink.contents c.finish-answer.result.3) (g.K.Sink.faults c.finish-answer.result.3) in
    let f : Finished g.N.DeskOrigin.given c.args.desk new c.has_fault-failed.result c.finish-answer.result.0 c.finish-answer.new.outs c.kept.result.now =
    record { desk = c.kept.ensures.desk; full = c.finish-answer.ensures.full; kept = c.finish-answer.ensures.kept; stands = c.finish-answer.ensures.stands; read_is = c.kept.ensures.value } in
    let h = c.ending_of-ending.ensures.down is in
    (h.0, h.3, received_by g.N.DeskOrigin.given c.args.desk new c.has_fault-failed.result c.finish-answer.result.0 c.finish-answer.new.outs c.kept.result.now (own_lists g.U.Trace.list c.args.workers.now) c.compare-tear.result f c.compare-tear.ensures.none (sym c.last_of.ensures.value ∙ h.1) h.2)

pub returns-clause-done : goal.returns-clause-done
returns-clause-done g c is =
    let new : DeskState = state_of c.finish-answer.result.1 (g.T.Trace.list c.finish-answer.result.2) (g.T.Trace.limit c.finish-answer.result.2) (g.K.Sink.contents c.finish-answer.result.3) (g.K.Sink.faults c.finish-answer.result.3) in
    let f : Finished g.N.DeskOrigin.given c.args.desk new c.has_fault-failed.result c.finish-answer.result.0 c.finish-answer.new.outs c.kept.result.now =
    record { desk = c.kept.ensures.desk; full = c.finish-answer.ensures.full; kept = c.finish-answer.ensures.kept; stands = c.finish-answer.ensures.stands; read_is = c.kept.ensures.value } in
    let h = c.ending_of-ending.ensures.done is in
    (h.0, h.3, received_by g.N.DeskOrigin.given c.args.desk new c.has_fault-failed.result c.finish-answer.result.0 c.finish-answer.new.outs c.kept.result.now (own_lists g.U.Trace.list c.args.workers.now) c.compare-tear.result f c.compare-tear.ensures.none (sym c.last_of.ensures.value ∙ h.1) h.2)
