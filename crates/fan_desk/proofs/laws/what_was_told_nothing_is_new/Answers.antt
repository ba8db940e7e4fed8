use Rattle.fan_desk.proofs.OneLemmas.{all_new}
use Rattle.fan_desk.proofs.laws.what_was_told_nothing_is_new.Goals as goal

pub returns : goal.returns
returns g c = all_new g.K.Sink.contents g.K.Sink.faults
