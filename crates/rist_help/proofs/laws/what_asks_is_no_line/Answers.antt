use Rattle.rist_help.proofs.AskLemmas.{asks_none}
use Rattle.rist_help.proofs.laws.what_asks_is_no_line.Goals as goal

pub returns : goal.returns
returns c words asked e = asks_none words asked e
