use Rattle.fan_desk.proofs.RowLemmas.{same_of_others}
use Rattle.fan_desk.proofs.laws.what_came_for_others_is_the_same_to_a_place.Goals as goal

pub returns : goal.returns
returns c = same_of_others
