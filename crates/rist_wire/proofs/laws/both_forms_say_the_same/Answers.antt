use Rattle.rist_wire.proofs.BackLemmas.{forms-same}
use Rattle.rist_wire.proofs.laws.both_forms_say_the_same.Goals as goal

pub returns : goal.returns
returns c = forms-same
