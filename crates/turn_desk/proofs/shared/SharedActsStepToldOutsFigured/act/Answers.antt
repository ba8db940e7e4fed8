-- One more step of the history.
use Rattle.std.proofs.Common.{ap, sym, subst}
use Rattle.turn_desk.specs.Stands.{StandAs}
use Rattle.turn_desk.proofs.SharedLemmas.{stands_more, answers_after, figures_kept}
use Rattle.turn_desk.proofs.shared.SharedActsStepToldOutsFigured.act.Goals as goal

pub returns-clause-stands : goal.returns-clause-stands
returns-clause-stands g c = λ before old.
    let v = c.deref_mut-parts.result.now in
    let was = subst (λ x. StandAs g.N.DeskOrigin.given g.K.Sink.contents g.K.Sink.faults x before) (sym c.deref_mut-parts.ensures.value) old in
    let x = c.step_into-answer.ensures in
    stands_more g.N.DeskOrigin.given c.args.ask.now c.step_into-answer.result c.step_into-answer.new.outs v.receiver c.step_into-answer.new.self (g.K.Sink.contents v.sink) (g.K.Sink.contents c.step_into-answer.new.sink) (g.K.Sink.faults v.sink) (g.K.Sink.faults c.step_into-answer.new.sink) before
    c.requires.asks.1 (record { work = x.work; cause = x.cause }) (λ is. let same = x.same is in (same.0, ap g.K.Sink.contents same.1, ap g.K.Sink.faults same.1)) was

pub returns-clause-answers : goal.returns-clause-answers
returns-clause-answers g c = λ before old.
    let v = c.deref_mut-parts.result.now in
    let was = subst (λ x. StandAs g.N.DeskOrigin.given g.K.Sink.contents g.K.Sink.faults x before) (sym c.deref_mut-parts.ensures.value) old in
    let x = c.step_into-answer.ensures in
    let is = stands_more g.N.DeskOrigin.given c.args.ask.now c.step_into-answer.result c.step_into-answer.new.outs v.receiver c.step_into-answer.new.self (g.K.Sink.contents v.sink) (g.K.Sink.contents c.step_into-answer.new.sink) (g.K.Sink.faults v.sink) (g.K.Sink.faults c.step_into-answer.new.sink) before
    c.requires.asks.1 (record { work = x.work; cause = x.cause }) (λ stop. let same = x.same stop in (same.0, ap g.K.Sink.contents same.1, ap g.K.Sink.faults same.1)) was in
    record {
      answers = answers_after g.N.DeskOrigin.given c.args.ask.now c.step_into-answer.result c.args.room.now c.step_into-answer.new.outs v.receiver c.step_into-answer.new.self (g.K.Sink.contents v.sink) (g.K.Sink.contents c.step_into-answer.new.sink) (g.K.Sink.faults v.sink) (g.K.Sink.faults c.step_into-answer.new.sink) before
          (record { work = x.work; cause = x.cause }) x.outs was;
      figures = figures_kept g.N.DeskOrigin.given c.step_into-answer.new.self (g.K.Sink.contents c.step_into-answer.new.sink) (g.K.Sink.faults c.step_into-answer.new.sink) _ _ is c.figures-figures.ensures.value;
    }
