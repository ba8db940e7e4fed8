-- Each receiver stands for one step more.
use Rattle.std.proofs.Common.{◌∷◌, suc, ap}
use Rattle.rist_fan.specs.Fan.{flows_in}
use Rattle.rist_fan.proofs.FanLemmas.{all_answer, all_figures, all_stand}
use Rattle.rist_fan.proofs.fan.Fan.step.Goals as goal

pub returns-clause-stands : goal.returns-clause-stands
returns-clause-stands g c = λ given history old.
    let s = c.step_all.ensures in
    all_stand g.K.Sink.contents g.K.Sink.faults given c.args.place c.args.told.now (flows_in c.args.self.now) (c.step_all.new.first ∷ c.step_all.new.more.items) c.args.came.now c.step_all.new.came history
    (ap suc s.flows) c.requires.room s.room c.requires.going s.steps old

pub returns-clause-answers : goal.returns-clause-answers
returns-clause-answers g c = λ given history old.
    let s = c.step_all.ensures in
    all_answer g.K.Sink.contents g.K.Sink.faults given c.args.place c.args.told.now (flows_in c.args.self.now) (c.step_all.new.first ∷ c.step_all.new.more.items) c.args.came.now c.step_all.new.came history
    (ap suc s.flows) c.requires.room s.steps old

pub returns-clause-figures : goal.returns-clause-figures
returns-clause-figures g c = λ given history old.
    let s = c.step_all.ensures in
    all_figures g.K.Sink.contents g.K.Sink.faults given c.args.place c.args.told.now (flows_in c.args.self.now) (c.step_all.new.first ∷ c.step_all.new.more.items) c.args.came.now c.step_all.new.came history
    (ap suc s.flows) c.requires.room s.room c.requires.going s.steps old
