use Rattle.world_rules.proofs.CourseLemmas.{plays_short}
use Rattle.world_rules.proofs.laws.short_scripts_are_played_as_reached.Goals as goal

pub returns : goal.returns
returns c = λ setup near far script course legal sealer short makes. plays_short setup near far script course legal sealer short makes
