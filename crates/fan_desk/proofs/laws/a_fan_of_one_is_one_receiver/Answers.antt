use Rattle.fan_desk.proofs.OneLemmas.{added_one, answers_one, seen_one, stands_one}
use Rattle.fan_desk.proofs.laws.a_fan_of_one_is_one_receiver.Goals as goal

pub returns : goal.returns
returns g c = record { seen = seen_one; added = added_one; stands = stands_one g.K.Sink.contents g.K.Sink.faults; answers = answers_one }
