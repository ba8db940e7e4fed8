use Rattle.rist_ext.proofs.CountedLemmas.{counted-same}
use Rattle.rist_ext.proofs.laws.a_size_is_taken_as_it_is.Goals as goal

pub returns : goal.returns
returns c = counted-same
