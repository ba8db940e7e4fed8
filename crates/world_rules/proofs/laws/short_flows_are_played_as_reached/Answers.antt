use Rattle.world_rules.proofs.RunLemmas.{plays_reached}
use Rattle.world_rules.proofs.laws.short_flows_are_played_as_reached.Goals as goal

pub returns : goal.returns
returns c = λ limits width low sent history delay short brings. plays_reached limits width low sent history delay short brings
