-- Each receiver was told the end.
use Rattle.std.proofs.Common.{◌∷◌, suc, ap}
use Rattle.rist_fan.specs.Fan.{flows_in}
use Rattle.rist_fan.proofs.FanLemmas.{all_end}
use Rattle.rist_fan.proofs.fan.Fan.finish.Goals as goal

pub returns-clause-ended : goal.returns-clause-ended
returns-clause-ended g c = λ given history old.
    let s = c.step_all.ensures in
    all_end g.K.Sink.contents g.K.Sink.faults given (flows_in c.args.self) (c.step_all.new.first ∷ c.step_all.new.more.items) c.args.came.now c.step_all.new.came history
    (ap suc s.flows) c.requires.room s.steps old
