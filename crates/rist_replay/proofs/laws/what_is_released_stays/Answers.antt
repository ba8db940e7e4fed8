-- An end only adds behind what is out.
use Rattle.rist_replay.proofs.ReplayLemmas.{front_of_whole}
use Rattle.rist_replay.proofs.laws.what_is_released_stays.Goals as goal

pub returns : goal.returns
returns c session limits rs = front_of_whole session limits rs
