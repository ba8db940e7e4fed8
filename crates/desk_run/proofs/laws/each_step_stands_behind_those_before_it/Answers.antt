-- What was seen grew from one to the next.
use Rattle.desk_run.proofs.SeenLemmas.{each_behind, each_before}
use Rattle.desk_run.proofs.laws.each_step_stands_behind_those_before_it.Goals as goal

pub returns : goal.returns
returns c = record { behind = each_behind; order = each_before }
