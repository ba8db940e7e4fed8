use Rattle.fan_desk.proofs.RowLemmas.{entries_at, of_at}
use Rattle.fan_desk.proofs.laws.each_place_has_turns_of_its_own.Goals as goal

pub returns : goal.returns
returns c = record { history = entries_at; own = of_at }
