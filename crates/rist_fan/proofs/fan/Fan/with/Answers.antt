-- What was told nothing stands for no steps.
use Rattle.std.proofs.Common.{◌∷◌}
use Rattle.rist_fan.proofs.FanLemmas.{all_new}
use Rattle.rist_fan.proofs.fan.Fan.with.Goals as goal

pub returns-clause-stands : goal.returns-clause-stands
returns-clause-stands g c = λ given new. all_new g.K.Sink.contents g.K.Sink.faults given (c.args.first ∷ c.args.more.items) new
