use Rattle.rist_ext.proofs.WordLemmas.{reading-spelled}
use Rattle.rist_ext.proofs.laws.what_is_spelled_is_read.Goals as goal

pub returns : goal.returns
returns c = λ word octets spells. (reading-spelled word octets spells).0
