-- One more row of the history.
use Rattle.std.proofs.Common.{◌≡◌, List, length, ap, sym, subst, ◌∙◌}
use Rattle.std.proofs.lemmas.List.{with_items_is}
use Rattle.turn_lock.specs.History.{added}
use Rattle.rist_fan.specs.declared.fan.Fan.{Fan}
use Rattle.rist_fan.specs.declared.flow.Came.{Came}
use Rattle.rist_fan.specs.Fan.{AllAnswer, AllFigures, FanStands, flows_in}
use Rattle.fan_desk.specs.Rows.{row_added}
use Rattle.fan_desk.proofs.RowLemmas.{figures_added, stand_added}
use Rattle.fan_desk.proofs.shared.SharedFanActsFanStepFanToldVecCameUnit.act.Goals as goal

pub returns-clause-stands : goal.returns-clause-stands
returns-clause-stands g c = λ before old.
    let given = g.N.FanOrigin.given in
    let contents = g.K.Sink.contents in
    let faults = g.K.Sink.faults in
    let lent : c.deref_mut-fan.result.now ≡ c.args.self.now = search (c.deref_mut-fan.ensures.value, c.self.view_is) in
    let many : length c.deref_mut.result.now ≡ length (flows_in c.deref_mut-fan.result.now) =
    ap (λ (l : List Came). length l) c.deref_mut.ensures.value ∙ (c.requires.asks.2 ∙ (sym c.self.invariant ∙ ap (λ (f : Fan _). length (flows_in f)) (sym c.deref_mut-fan.ensures.value))) in
    subst (λ (l : List Came). FanStands given contents faults (flows_in c.step.new.self) (added (row_added c.args.ask.now l tt) before))
    (sym (with_items_is c.args.room.now c.step.new.came (c.step.ensures.room ∙ c.deref_mut.ensures.len)))
    (stand_added given contents faults c.args.ask.now c.step.new.came before (flows_in c.step.new.self) (c.step.ensures.room ∙ (many ∙ sym c.step.ensures.places))
    (c.step.ensures.stands given before (subst (λ (f : Fan _). FanStands given contents faults (flows_in f) before) (sym lent) old)))

pub returns-clause-answers : goal.returns-clause-answers
returns-clause-answers g c = λ before old.
    let given = g.N.FanOrigin.given in
    let ask = c.args.ask.now in
    let lent : c.deref_mut-fan.result.now ≡ c.args.self.now = search (c.deref_mut-fan.ensures.value, c.self.view_is) in
    let left = with_items_is c.args.room.now c.step.new.came (c.step.ensures.room ∙ c.deref_mut.ensures.len) in
    let stands = subst (λ (f : Fan _). FanStands given g.K.Sink.contents g.K.Sink.faults (flows_in f) before) (sym lent) old in
    record {
      rows = record {
        each = subst (λ (l : List Came). AllAnswer given before ask.place ask.told c.args.room.now.items l) (sym left)
            (subst (λ (l : List Came). AllAnswer given before ask.place ask.told l c.step.new.came) c.deref_mut.ensures.value
            (c.step.ensures.answers given before stands));
        places = ap (λ (l : List Came). length l) left ∙ (c.step.ensures.room ∙ ap (λ (l : List Came). length l) c.deref_mut.ensures.value);
      };
      figures = subst (λ (l : List Came). AllFigures given (added (row_added ask l tt) before) l) (sym left)
          (figures_added given ask c.step.new.came before (c.step.ensures.figures given before stands));
    }
